-- A row that is painted from a place on: what lies before it was cleared, and the part behind it was lent and is back.
use Rattle.std.specs.Prelude.{ℕ, ◌+◌, ◌-◌, ◌≤◌, ◌≡◌, List, ◌++◌, length, take, drop}
use Rattle.std.proofs.Common.{◌∙◌, ap, append_assoc, arith, length-drop, take_at, drop_at, length-take-le}
use Rattle.std.proofs.lemmas.List.{length-replicate}
use borrow.Rule.Slice.PartMut.{mid_of, put_mid}
use Rattle.units.specs.Counts.{word_bytes}
use Rattle.units.specs.Over.{over, zeros}
use Rattle.units.specs.Words.{word_count, words_to_bytes}
use Rattle.units.proofs.Laws.Over.{length_over}
use Rattle.units.proofs.Laws.Parts.{tail_is, put_tail, replace_part}

module _ (at : ℕ) (row done : List ℕ) (h : at ≤ length row) (e : done ≡ zeros (length (take at row))) where
  cleared : done ≡ zeros at
  cleared = e ∙ ap zeros (length-take-le at row h)

  length_cleared : length done ≡ at
  length_cleared = ap length cleared ∙ length-replicate at 0

  -- what is lent, up to the row's end or of some size
  lent_tail : mid_of at (length (done ++ drop at row) - at) (done ++ drop at row) ≡ drop at row
  lent_tail = tail_is at (done ++ drop at row) ∙ drop_at done (drop at row) at length_cleared

  pub tail_painted : (part : List ℕ) (pixels : ℕ → List ℕ)
      → let out = done ++ drop at row in
      let lent = mid_of at (length out - at) out in
      part ≡ over (pixels (length lent)) lent
      → put_mid at (length out - at) out part ≡ zeros at ++ over (pixels (length row - at)) (drop at row)
  tail_painted part pixels p =
      put_tail at (done ++ drop at row) part
      ∙ ap (λ (x : List ℕ). x ++ part) (take_at done (drop at row) at length_cleared ∙ cleared)
      ∙ ap (λ (x : List ℕ). zeros at ++ x)
      (p
      ∙ ap (λ (x : List ℕ). over (pixels (length x)) x) lent_tail
      ∙ ap (λ (n : ℕ). over (pixels n) (drop at row)) (length-drop at row))

  module _ (size : ℕ) (fits : at + size ≤ length row) where
    lent-size : length (mid_of at (at + size - at) (done ++ drop at row)) ≡ size
    lent-size =
        let n : at + size - at ≡ size = omega arith in
        rw (n, drop_at done (drop at row) at length_cleared) (length-take-le size (drop at row) (omega (arith, length-drop at row)))

    -- the part that is lent comes back with the bytes of pixels over zeros
    pub bytes_painted : (column p : ℕ) → at ≡ word_bytes column → size ≡ word_bytes (p - column) → column ≤ p → (part : List ℕ) (pixels : ℕ → List ℕ)
        → let lent = mid_of at (at + size - at) (done ++ drop at row) in
        part ≡ over (words_to_bytes (pixels (word_count lent).0)) (zeros (length lent))
        → put_mid at (at + size - at) (done ++ drop at row) part
        ≡ zeros (word_bytes column) ++ (over (words_to_bytes (pixels (p - column))) (zeros (word_bytes (p - column))) ++ drop (word_bytes p) row)
    bytes_painted column p a b c part pixels q =
        let lent = mid_of at (at + size - at) (done ++ drop at row) in
        let l : length lent ≡ size = lent-size in
        let w : (word_count lent).0 ≡ p - column = omega arith in
        let m : length part ≡ length lent =
        ap length q ∙ length_over (words_to_bytes (pixels (word_count lent).0)) (zeros (length lent)) ∙ length-replicate (length lent) 0 in
        let n : at + size ≡ word_bytes p = omega arith in
        replace_part done part row at (at + size) length_cleared (omega arith) fits
        ∙ append_assoc done part (drop (at + size) row)
        ∙ ap (λ (x : List ℕ). x ++ (part ++ drop (at + size) row)) (cleared ∙ ap zeros a)
        ∙ ap (λ (m : ℕ). zeros (word_bytes column) ++ (part ++ drop m row)) n
        ∙ ap (λ (x : List ℕ). zeros (word_bytes column) ++ (x ++ drop (word_bytes p) row))
        (q ∙ (λ i. over (words_to_bytes (pixels (w i))) (zeros ((l ∙ b) i))))

-- the same from the first column on: nothing was cleared, and the row's first part was lent
pub whole_painted : (column p size : ℕ) (row part : List ℕ) (pixels : ℕ → List ℕ) → column ≡ 0 → size ≡ word_bytes (p - column) → word_bytes p ≤ length row
    → part ≡ over (words_to_bytes (pixels (word_count (take size row)).0)) (zeros (length (take size row)))
    → part ++ drop size row
    ≡ zeros (word_bytes column) ++ (over (words_to_bytes (pixels (p - column))) (zeros (word_bytes (p - column))) ++ drop (word_bytes p) row)
whole_painted column p size row part pixels none b fits q =
    let l : length (take size row) ≡ size = length-take-le size row (omega arith) in
    let w : (word_count (take size row)).0 ≡ p - column = omega arith in
    let n : size ≡ word_bytes p = omega arith in
    let z : word_bytes column ≡ 0 = omega arith in
    rw z
    (ap (λ (x : List ℕ). x ++ drop size row) (q ∙ (λ i. over (words_to_bytes (pixels (w i))) (zeros ((l ∙ b) i))))
    ∙ ap (λ (m : ℕ). over (words_to_bytes (pixels (p - column))) (zeros (word_bytes (p - column))) ++ drop m row) n)
