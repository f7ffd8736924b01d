-- The line numbers of a raster: what the chain knows, on its way, of the number in line 65,536.
use Rattle.std.specs.Prelude.{ℕ, zero, suc, ◌+◌, ◌-◌, ◌≤◌, ◌<◌, ◌≡◌, refl, Bool, true, false, List, eqb, ltb}
use Rattle.std.proofs.Common.{sym, ◌∙◌, ap, inl, inr, arith, eqb-true, ltb-true, ltb-false}
use Rattle.std.proofs.lemmas.Bool.{false≢true}
use Rattle.units.proofs.Laws.Numbers.{below_next}
use Rattle.numbering.specs.Numbering.{first_past, wanted_number, stored_number, rollover_met}
use Rattle.numbering.proofs.Laws.Numbering.{number-low, number_most, number_later, same_wanted, met_there, met_elsewhere}
use Rattle.layout.specs.Scanline.{head_of, reading_of}
use Rattle.layout.specs.Chain.{Raster, from, step_at, start, reached, head_at, rollover_of, number_of}
use Rattle.layout.proofs.Laws.Line.{head_word}
use Rattle.layout.proofs.Laws.Chain.{both, reached-suc}

-- the number in the header is the one in the bytes that are left
pub head_number : (rest : List ℕ) → stored_number (head_of rest) ≡ stored_number rest
head_number rest = head_word rest 4 (omega arith)

pub rollover_is : (r : Raster) → rollover_of r ≡ stored_number (head_at r first_past)
unfolding rollover_of
rollover_is r = refl

-- the scanlines before a reached one are reached
module _ (r : Raster) where
  reached-before : (k : ℕ) → reached r (suc k) ≡ true → reached r k ≡ true
  reached-before k q = (both (reached r k) (step_at r (start r k)).lost (sym (reached-suc r k) ∙ q)).0

  pub reached_earlier : (j k : ℕ) → j ≤ k → reached r k ≡ true → reached r j ≡ true
  reached_earlier j zero h q = rw (let z : j ≡ 0 = omega arith in z) q
  reached_earlier j (suc k) h q =
      elim (below_next j (suc k) (omega arith)) [
        | inl l ↦ reached_earlier j k (omega arith) (reached-before k q)
        | inr e ↦ rw e q
      ]

-- without a header the number does not matter
pub same_number : (scn t p : ℕ) {a b : ℕ} (rest : List ℕ) → (scn ≡ 1 → a ≡ b) → reading_of scn t p a rest ≡ reading_of scn t p b rest
same_number scn t p {a} {b} rest same = go (eqb scn 1) refl
  where
    go : (x : Bool) → eqb scn 1 ≡ x → reading_of scn t p a rest ≡ reading_of scn t p b rest
    go true e = ap (λ (n : ℕ). reading_of scn t p n rest) (same (eqb-true scn 1 e))
    go false e = rw e

-- past line 65,536 its number is known
abbrev pub RolloverKnown : Raster → ℕ → ℕ → Type 0
RolloverKnown r k known = 65535 < k → reached r k ≡ true → known ≡ rollover_of r

-- with what the chain meets at scanline k
module _ (r : Raster) (k known : ℕ) (now : RolloverKnown r k known) (q : reached r k ≡ true) {rest : List ℕ} (there : rest ≡ from r (start r k))
    {met : ℕ} (meets : met ≡ rollover_met known k rest) where
  met_is : 65535 ≤ k → met ≡ rollover_of r
  met_is h =
      elim (below_next 65535 k (omega arith)) [
        | inl l ↦ meets ∙ met_elsewhere known k rest (λ e. omega arith) ∙ now l q
        | inr e ↦
            meets
            ∙ ap (λ (j : ℕ). rollover_met known j rest) (sym e)
            ∙ met_there known rest
            ∙ ap stored_number there
            ∙ sym (head_number (from r (start r k)))
            ∙ ap (λ (j : ℕ). stored_number (head_at r j)) (sym e)
            ∙ sym (rollover_is r)
      ]

  -- the number that scanline k must have is known, and the next one's
  pub number_met : {number : ℕ} → number ≡ wanted_number met k → number ≡ number_of r k
  number_met wanted = wanted ∙ same_wanted met (rollover_of r) k met_is

  pub known_here : RolloverKnown r k met
  known_here h here = met_is (omega arith)

  pub known_next : RolloverKnown r (suc k) met
  known_next h next = met_is (omega arith)

  -- from there on each scanline has one more, up to 65,535: `before` lines more have come than the number says
  module _ {number : ℕ} (wanted : number ≡ wanted_number met k) {before end : ℕ} (behind : before ≡ k + 1 - number) (ends : end ≤ before + 65535) where
    met_run : (j : ℕ) → k ≤ j → j < end → 65535 ≤ j → met ≡ rollover_of r
    met_run j l u h = go (ltb k 65535) refl
      where
        go : (t : Bool) → ltb k 65535 ≡ t → met ≡ rollover_of r
        go true e = absurd (omega (arith, number-low met k (ltb-true k 65535 e)))
        go false e = met_is (ltb-false k 65535 e)

    pub run-number : (j : ℕ) → k ≤ j → j < end → j + 1 - before ≡ number_of r j
    run-number j l u =
        let d = j - k in
        let w = wanted_number met k in
        let at : k + d ≡ j = omega arith in
        let below : w + d ≤ 65535 = omega (arith, number_most met k) in
        let n : j + 1 - before ≡ w + d = omega (arith, number_most met k) in
        n ∙ sym (number_later met k d below) ∙ ap (wanted_number met) at ∙ same_wanted met (rollover_of r) j (met_run j l u)

    pub run_known : (j : ℕ) → k ≤ j → j < end → RolloverKnown r (suc j) met
    run_known j l u h next = met_run j l u (omega arith)

-- none is known where the chain starts, and none is wanted of a scanline that is not reached
pub known_first : (r : Raster) (known : ℕ) → RolloverKnown r 0 known
known_first r known h q = absurd (omega arith)

pub known_lost : (r : Raster) (k known : ℕ) → reached r k ≡ false → RolloverKnown r k known
known_lost r k known u h q = absurd (false≢true (sym u ∙ q))
