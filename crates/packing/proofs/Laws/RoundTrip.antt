-- A row of 0 and 1 is what the bits of its words start with, with zeros behind it. And words whose bits are a row with zeros behind it are
-- the words of that row.
use Rattle.std.specs.Prelude.{ℕ, zero, suc, ◌-◌, ◌*◌, ◌≡◌, refl, Bool, true, false, not, ◌||◌, List, [], ◌∷◌, ◌++◌, length, take, drop, eqb}
use Rattle.std.proofs.Common.{sym, ◌∙◌, ap, ap₂, arith, eqb-true, length-append, take-append-drop, length-take-le}
use Rattle.std.proofs.lemmas.Bool.{false≢true}
use Rattle.std.proofs.lemmas.List.{length-replicate}
use Rattle.std.proofs.Math.Seq.{take-append_seam, drop-append_seam}
use Rattle.units.specs.Over.{zeros}
use Rattle.units.proofs.Laws.Below.{AllBelow, all_append}
use Rattle.packing.specs.Packing.{word_bits, packed_count, any_set, packed_words}
use Rattle.packing.proofs.Laws.Bits.{length-word_bits}
use Rattle.packing.proofs.Laws.Numbers.{packed_pad, bits_packed, words_packed}

zeros_below : (m : ℕ) → AllBelow 2 (zeros m)
zeros_below zero = tt
zeros_below (suc m) = (omega arith, zeros_below m)

zeros_unset : (m : ℕ) → any_set (zeros m) ≡ false
unfolding any_set
zeros_unset zero = refl
zeros_unset (suc m) = zeros_unset m

-- a row's words
module _ (row : List ℕ) (below : AllBelow 2 row) where
  abbrev row_bits : List ℕ
  row_bits = word_bits (packed_words (packed_count (length row)) row)

  pub bits-of-row : row_bits ≡ row ++ zeros (16 * packed_count (length row) - length row)
  bits-of-row =
      let n = packed_count (length row) in
      let m = 16 * n - length row in
      let l : length (row ++ zeros m) ≡ 16 * n = length-append row (zeros m) ∙ omega (arith, length-replicate {A = ℕ} m 0) in
      rw (← packed_pad n m row) (bits_packed n (row ++ zeros m) (all_append 2 row (zeros m) below (zeros_below m)) l)

  pub row_back : take (length row) row_bits ≡ row
  row_back = rw bits-of-row (take-append_seam row (zeros (16 * packed_count (length row) - length row)))

  pub spare_unset : any_set (drop (length row) row_bits) ≡ false
  spare_unset =
      let m = 16 * packed_count (length row) - length row in
      rw (bits-of-row, drop-append_seam row (zeros m)) (zeros_unset m)

-- the other way
or_false : (s t : Bool) → (not s || t) ≡ false → (s ≡ true) × (t ≡ false)
or_false true t e = (refl, e)
or_false false t e = absurd (false≢true (sym e))

unset_zeros : (l : List ℕ) → any_set l ≡ false → l ≡ zeros (length l)
unfolding any_set
unset_zeros [] e = refl
unset_zeros (x ∷ r) e =
    let h = or_false (eqb x 0) (any_set r) e in
    ap₂ (λ (y : ℕ) (ys : List ℕ). y ∷ ys) (eqb-true x 0 h.0) (unset_zeros r h.1)

pub words_back : (ws : List ℕ) (p : ℕ) → AllBelow 65536 ws → length ws ≡ packed_count p → any_set (drop p (word_bits ws)) ≡ false
    → packed_words (packed_count (length (take p (word_bits ws)))) (take p (word_bits ws)) ≡ ws
words_back ws p below count unset =
    let all = word_bits ws in
    let n = length ws in
    let t : length (take p all) ≡ p = length-take-le p all (omega (arith, length-word_bits ws)) in
    let z : drop p all ≡ zeros (length (drop p all)) = unset_zeros (drop p all) unset in
    ap (λ (k : ℕ). packed_words (packed_count k) (take p all)) t
    ∙ ap (λ (k : ℕ). packed_words k (take p all)) (sym count)
    ∙ sym (packed_pad n (length (drop p all)) (take p all))
    ∙ ap (λ (r : List ℕ). packed_words n (take p all ++ r)) (sym z)
    ∙ ap (λ (r : List ℕ). packed_words n r) (take-append-drop p all)
    ∙ words_packed ws below
