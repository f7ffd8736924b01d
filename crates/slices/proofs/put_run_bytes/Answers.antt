use Rattle.std.proofs.Common.{ℕ, ◌+◌, ◌-◌, ◌*◌, ◌≤◌, min, max, ◌≡◌, sym, ◌∙◌, ap, arith, List, length, take, replicate, take_all}
use Rattle.std.proofs.lemmas.List.{length-replicate}
use Rattle.std.proofs.lemmas.List.Edits.{sets}
use borrow.Rule.Slice.PartMut.{mid_of, mid_len, put_mid}
use Rattle.units.specs.Counts.{word_bytes}
use Rattle.units.specs.Over.{over}
use Rattle.units.specs.Words.{words_to_bytes}
use Rattle.units.proofs.Laws.Over.{over_full}
use Rattle.units.proofs.Laws.Stores.{length-bytes, take-same_bytes}
use Rattle.slices.proofs.Laws.Painting.{part_stored}
use Rattle.slices.proofs.put_run_bytes.Goals as goal

-- the bytes of a run
length_run : (n v : ℕ) → length (words_to_bytes (replicate n v)) ≡ word_bytes n
length_run n v = length-bytes (replicate n v) ∙ ap word_bytes (length-replicate n v)

-- a part that n pixels fill, as far as it goes, and eight of them
run_stored : (row part : List ℕ) (at end n v : ℕ) → at ≤ length row → end ≡ min (at + 2 * n) (length row)
    → part ≡ over (words_to_bytes (replicate (length (mid_of at (end - at) row)) v)) (mid_of at (end - at) row)
    → put_mid at (end - at) row part ≡ sets row at (words_to_bytes (replicate n v))
run_stored row part at end n v within e put =
    let new = words_to_bytes (replicate n v) in
    let all : length new ≡ 2 * n = length_run n v in
    let old = mid_of at (end - at) row in
    let m : length old ≡ end - at = mid_len at end row (omega arith) in
    part_stored row new part at end within (omega arith)
    (put
    ∙ over_full _ old (omega (arith, length_run (length old) v))
    ∙ ap (λ (k : ℕ). take k (words_to_bytes (replicate k v))) m
    ∙ take-same_bytes (end - at) (end - at) n v (omega arith) (omega arith))

eight_stored : (row part : List ℕ) (at n v : ℕ) → at + 16 ≤ length row → n ≤ 8 → part ≡ words_to_bytes (replicate 8 v)
    → put_mid at (at + 16 - at) row part ≡ sets row at (words_to_bytes (replicate (max n 8) v))
eight_stored row part at n v room few put =
    let new = words_to_bytes (replicate 8 v) in
    let l : length new ≡ 16 = length_run 8 v in
    let eight : 8 ≡ max n 8 = omega arith in
    part_stored row new part at (at + 16) (omega arith) (omega arith) (put ∙ sym (take_all (at + 16 - at) new (omega arith)))
    ∙ ap (λ (k : ℕ). sets row at (words_to_bytes (replicate k v))) eight

pub returns-then-room-ge16-clause-row_after : goal.returns-then-room-ge16-clause-row_after
returns-then-room-ge16-clause-row_after c =
    let a = c.args in eight_stored a.row.now c.fill_eight.new.out a.at a.n a.v (omega arith) (omega arith) c.fill_eight.ensures

pub returns-clause-row_after : goal.returns-clause-row_after
returns-clause-row_after c =
    let a = c.args in run_stored a.row.now c.fill_pixels.new.row a.at _ (max a.n 8) a.v (omega arith) (omega arith) c.fill_pixels.ensures
