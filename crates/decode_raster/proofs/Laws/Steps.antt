-- One scanline read: what the chain is after it, where it was lost before and where not.
use Rattle.std.specs.Prelude.{ℕ, suc, ◌+◌, ◌-◌, ◌≤◌, ◌≡◌, refl, Ok, Err, Bool, true, false, not, cond, ◌&&◌, List, length, take, eqb}
use Rattle.std.proofs.Common.{sym, ◌∙◌, ap, subst, add-zero, add-one, arith, length-drop, ne_eqb}
use Rattle.std.proofs.Math.Path.{subst⁻¹}
use Rattle.std.proofs.lemmas.Bool.{not-true, not-false}
use Rattle.refusals.specs.declared.Fault.{Fault}
use Rattle.refusals.specs.declared.Fault.TheVariants.{Unreached}
use Rattle.refusals.specs.Faults.{mark_of, status_of}
use Rattle.refusals.proofs.Laws.Numbers.{marked}
use Rattle.units.specs.Counts.{word_bytes}
use Rattle.units.specs.Over.{over, zeros}
use Rattle.units.specs.Words.{words_to_bytes}
use Rattle.units.proofs.Laws.Over.{over_all}
use Rattle.units.proofs.Laws.Parts.{rest_is}
use Rattle.units.proofs.Laws.Stores.{length-bytes}
use Rattle.codec.specs.Extent.{Extent, extent_of}
use Rattle.codec.specs.declared.Scanline.{Scanline}
use Rattle.numbering.specs.Numbering.{wanted_number, rollover_met}
use Rattle.layout.specs.Scanline.{Reading, step_of, reading_of}
use Rattle.layout.specs.Chain.{Raster, from, step_at, start, reached, number_of, reading_at, one_if_good, good_count}
use Rattle.layout.proofs.Laws.Line.{used_within}
use Rattle.layout.proofs.Laws.Chain.{start_within, start_suc, reached-suc, reading_reached, reading_unreached, unreached-start, unreached-suc, good_suc}
use Rattle.layout.proofs.Laws.Numbering.{RolloverKnown, number_met, known_next, known_lost}
use Rattle.scan_scanline.specs.Answer.{IsScan}
use Rattle.decode_raster.specs.declared.Chain.{Chain}
use Rattle.decode_raster.specs.Laws.Answer.{Storing, ChainAt, Stepped}

-- a scanline that the chain has come to starts within the bytes
pub at_within : (r : Raster) (k : ℕ) (c : Chain) → ChainAt r k c → r.data_start ≤ length r.bytes → c.at ≤ length r.bytes
at_within r k c h starts = omega (arith, h.at, start_within r starts k)

-- and so does the next one
pub next_within : (r : Raster) (at number : ℕ) (l : Extent) → at ≤ length r.bytes
    → IsScan (step_of r.scn r.data_type r.ppl (take (length r.bytes - at) (from r at)))
    (reading_of r.scn r.data_type r.ppl number (take (length r.bytes - at) (from r at))) l
    → at + l.used.0 ≤ length r.bytes
next_within r at number l h line =
    omega (
      arith,
      line.used,
      used_within r.scn r.data_type r.ppl (take (length r.bytes - at) (from r at)),
      ap length (rest_is r.bytes at),
      length-drop at r.bytes,
    )

pub one_most : (status : ℕ) → one_if_good status ≤ 1
one_most status = go (eqb status 0)
  where
    go : (b : Bool) → cond b 1 0 ≤ 1
    go true = omega arith
    go false = omega arith

module _ (r : Raster) (s : Storing r.ppl) (k : ℕ) (c : Chain) (h : ChainAt r k c) where
  pub step-lost : c.lost ≡ true → (row : List ℕ) → row ≡ s.image (zeros r.ppl)
      → Stepped r s k (record { at = c.at; lost = c.lost; good = c.good; status = Err Unreached; rollover = c.rollover }) row
  step-lost l row e =
      let u : reached r k ≡ false = not-true (reached r k) (sym h.lost ∙ l) in
      let x = reading_unreached r k u in
      record {
        chain =
            subst⁻¹ (λ (i : ℕ). ChainAt r i (record { at = c.at; lost = c.lost; good = c.good; status = Err Unreached; rollover = c.rollover })) (add-one k)
            (record {
              at = h.at ∙ sym (unreached-start r k u);
              lost = l ∙ sym (ap not (unreached-suc r k u));
              good = h.good ∙ sym (good_suc r k ∙ ap (λ (y : Reading). good_count r k + one_if_good y.status) x ∙ add-zero (good_count r k));
              rollover = known_lost r _ c.rollover (unreached-suc r k u);
            });
        status = sym (ap (λ (y : Reading). y.status) x);
        row_is = e ∙ sym (ap (λ (y : Reading). s.image y.row) x);
      }

  -- where the chain has come to
  module _ (kept : c.lost ≡ false) where
    u : reached r k ≡ true
    u = not-false (reached r k) (sym h.lost ∙ kept)

    rest : take (length r.bytes - c.at) (from r c.at) ≡ from r (start r k)
    rest = rest_is r.bytes c.at ∙ ap (from r) h.at

    -- what it meets there
    module _ {rollover : ℕ} (met : rollover ≡ rollover_met c.rollover k (take (length r.bytes - c.at) (from r c.at))) where
      pub number_here : {number : ℕ} → number ≡ wanted_number rollover k → number ≡ number_of r k
      number_here wanted = number_met r k c.rollover h.rollover u rest met wanted

      pub known_after : RolloverKnown r (suc k) rollover
      known_after = known_next r k c.rollover h.rollover u rest met

    -- by the number that scanline k must have
    pub step_on : (l : Extent) (row : List ℕ) (d : Chain) {number : ℕ}
        → number ≡ number_of r k → RolloverKnown r (suc k) d.rollover
        → IsScan (step_of r.scn r.data_type r.ppl (take (length r.bytes - c.at) (from r c.at)))
        (reading_of r.scn r.data_type r.ppl number (take (length r.bytes - c.at) (from r c.at))) l
        → row ≡ s.image (reading_of r.scn r.data_type r.ppl number (take (length r.bytes - c.at) (from r c.at))).row
        → d.at ≡ c.at + l.used.0 → d.lost ≡ l.lost → d.good ≡ c.good + one_if_good l.status → status_of d.status ≡ l.status
        → Stepped r s k d row
    step_on l row d {number} n known line stored at lost good status =
        let x = reading_reached r k u in
        let there : IsScan (step_at r (start r k)) (reading_of r.scn r.data_type r.ppl (number_of r k) (from r (start r k))) l =
        subst (λ (m : ℕ). IsScan (step_at r (start r k)) (reading_of r.scn r.data_type r.ppl m (from r (start r k))) l) n
        (subst (λ (b : List ℕ). IsScan (step_of r.scn r.data_type r.ppl b) (reading_of r.scn r.data_type r.ppl number b) l) rest line) in
        let y : l.status ≡ (reading_at r k).status = there.status ∙ sym (ap (λ (z : Reading). z.status) x) in
        record {
          chain =
              subst⁻¹ (λ (i : ℕ). ChainAt r i d) (add-one k)
              (record {
                at = at ∙ ap (λ (a : ℕ). a + l.used.0) h.at ∙ ap (λ (n : ℕ). start r k + n) there.used ∙ sym (start_suc r k);
                lost =
                    lost
                    ∙ there.lost
                    ∙ twice (step_at r (start r k)).lost
                    ∙ sym (ap not (reached-suc r k ∙ ap (λ (b : Bool). b && not (step_at r (start r k)).lost) u));
                good =
                    good
                    ∙ ap (λ (g : ℕ). g + one_if_good l.status) h.good
                    ∙ ap (λ (m : ℕ). good_count r k + one_if_good m) y
                    ∙ sym (good_suc r k);
                rollover = known;
              });
          status = status ∙ y;
          row_is =
              stored
              ∙ (λ i. s.image (reading_of r.scn r.data_type r.ppl (n i) (rest i)).row)
              ∙ sym (ap (λ (z : Reading). s.image z.row) x);
        }
      where
        twice : (b : Bool) → b ≡ not (not b)
        twice true = refl
        twice false = refl

    -- by what it meets there: a line, or a fault that loses it
    module _ {rollover number : ℕ} (met : rollover ≡ rollover_met c.rollover k (take (length r.bytes - c.at) (from r c.at))) (wanted : number ≡ wanted_number rollover k)
        (row : List ℕ) (stored : row ≡ s.image (reading_of r.scn r.data_type r.ppl number (take (length r.bytes - c.at) (from r c.at))).row) where
      here : number ≡ number_of r k
      here = number_met r k c.rollover h.rollover u rest met wanted

      known : RolloverKnown r (suc k) rollover
      known = known_next r k c.rollover h.rollover u rest met

      pub step-line : (line : Scanline) (one : ℕ)
          → IsScan (step_of r.scn r.data_type r.ppl (take (length r.bytes - c.at) (from r c.at)))
          (reading_of r.scn r.data_type r.ppl number (take (length r.bytes - c.at) (from r c.at))) (extent_of (Ok line))
          → one ≡ one_if_good (status_of line.body)
          → Stepped r s k (record { at = c.at + line.used.0; lost = false; good = c.good + one; status = line.body; rollover = rollover }) row
      step-line line one scan counted =
          step_on (extent_of (Ok line)) row (record { at = c.at + line.used.0; lost = false; good = c.good + one; status = line.body; rollover = rollover })
          here known scan stored refl refl (ap (λ (n : ℕ). c.good + n) counted) refl

      pub step_fault : (f : Fault)
          → IsScan (step_of r.scn r.data_type r.ppl (take (length r.bytes - c.at) (from r c.at)))
          (reading_of r.scn r.data_type r.ppl number (take (length r.bytes - c.at) (from r c.at))) (extent_of (Err f))
          → Stepped r s k (record { at = c.at; lost = true; good = c.good; status = Err f; rollover = rollover }) row
      step_fault f scan =
          let none : one_if_good (mark_of f) ≡ 0 = rw (ne_eqb (mark_of f) 0 (marked f)) in
          step_on (extent_of (Err f)) row (record { at = c.at; lost = true; good = c.good; status = Err f; rollover = rollover })
          here known scan stored (omega arith) refl (omega arith) refl

-- bytes that fill a row of bytes whole
pub bytes_full : (row old : List ℕ) (p : ℕ) → length row ≡ p → length old ≡ word_bytes p → over (words_to_bytes row) old ≡ words_to_bytes row
bytes_full row old p l m =
    let n : length (words_to_bytes row) ≡ word_bytes p = length-bytes row ∙ ap word_bytes l in
    over_all (words_to_bytes row) old (omega arith)
