-- Runs put into a row one after the other, as far as it goes: pixels, or their bytes.
use Rattle.std.specs.Prelude.{ℕ, ◌+◌, ◌-◌, ◌≤◌, ◌<◌, min, max, ◌≡◌, refl, Bool, true, false, List, [], ◌++◌, length, take, drop, replicate, ltb}
use Rattle.std.proofs.Common.{zero-le, sym, ◌∙◌, ap, append_assoc, append-nil, arith, length-append, length-take, length-drop, drop_of_length-le, take_all, take_at, drop_at, take-take, length-take-le, ltb-true, ltb-false}
use Rattle.std.proofs.lemmas.List.{length-replicate, replicate-append-replicate, take-append-le, take-replicate, drop-replicate}
use Rattle.std.proofs.lemmas.List.Edits.{sets}
use Rattle.std.proofs.Math.Seq.{take-append-add, length-sets}
use borrow.Rule.Slice.PartMut.{mid_of, put_mid}
use Rattle.units.specs.Counts.{word_bytes}
use Rattle.units.specs.Over.{over, zeros}
use Rattle.units.specs.Words.{words_to_bytes}
use Rattle.units.proofs.Laws.Over.{sets-append, sets_past, sets_part, sets_over}
use Rattle.units.proofs.Laws.Parts.{tail_is, put_tail}
use Rattle.units.proofs.Laws.Stores.{length-bytes, bytes-append}

-- as much of `new` as there is room for
pub cut : (new old : List ℕ) (m : ℕ) → m ≡ min (length new) (length old) → take m new ++ drop m old ≡ over new old
unfolding over
cut new old m e = go (ltb (length old) (length new)) refl
  where
    go : (b : Bool) → ltb (length old) (length new) ≡ b → take m new ++ drop m old ≡ take (length old) new ++ drop (length new) old
    go true t =
        let h : length old < length new = ltb-true (length old) (length new) t in
        let s : m ≡ length old = omega arith in
        rw (s, drop_of_length-le old {i = length old} (omega arith), drop_of_length-le old {i = length new} (omega arith))
    go false t =
        let h : length new ≤ length old = ltb-false (length old) (length new) t in
        let s : m ≡ length new = omega arith in
        rw (s, take_all (length new) new (omega arith), take_all (length old) new h)

-- a part that was lent from `at` on, and holds the first elements of `new`, is back
pub part_stored : (row new part : List ℕ) (at end : ℕ) → at ≤ length row → end ≡ min (at + length new) (length row) → part ≡ take (end - at) new
    → put_mid at (end - at) row part ≡ sets row at new
part_stored row new part at end h e p =
    rw p
    (ap (λ (l : List ℕ). take at row ++ l) (cut new (drop at row) (end - at) (omega (arith, length-drop at row)))
    ∙ sym (sets_part row at new))

-- one pixel over and over, its front and what is behind
pub take_same : (m n v : ℕ) → m ≤ n → take m (replicate n v) ≡ replicate m v
take_same m n v h = take-replicate m n v h

drop_same : (m n v : ℕ) → drop m (replicate n v) ≡ replicate (n - m) v
drop_same m n v = drop-replicate m n v

-- A run is put at its place, and then what comes after it.
pub run_put : (row : List ℕ) (at : ℕ) (new next : List ℕ) {row' : List ℕ} {r : ℕ} → row' ≡ sets row at new → r ≡ min (at + length new) (length row)
    → sets row at (new ++ next) ≡ sets row' r next
run_put row at new next {row'} {r} s e = sets-append row at new next ∙ go (ltb (length row) (at + length new)) refl
  where
    go : (b : Bool) → ltb (length row) (at + length new) ≡ b → sets (sets row at new) (at + length new) next ≡ sets row' r next
    go true t =
        let h : length row < at + length new = ltb-true (length row) (at + length new) t in
        let n : length (sets row at new) ≡ length row = length-sets row at new in
        rw s
        (sets_past (sets row at new) (at + length new) next (omega arith) ∙ sym (sets_past (sets row at new) r next (omega arith)))
    go false t =
        let h : at + length new ≤ length row = ltb-false (length row) (at + length new) t in
        let q : r ≡ at + length new = omega arith in
        rw (s, q)

-- A loop that puts runs: what is to come, put where the row is filled up to, gives the whole row from turn to turn.
module _ (row : List ℕ) (at n v : ℕ) (rest next whole : List ℕ) (e : rest ≡ replicate n v ++ next) {row' : List ℕ} {r : ℕ} where
  pub run_next : r ≡ min (at + n) (length row) → row' ≡ sets row at (replicate n v) → sets row at rest ≡ whole → sets row' r next ≡ whole
  run_next to put h =
      let l : length (replicate n v) ≡ n = length-replicate n v in
      sym (run_put row at (replicate n v) next put (omega arith)) ∙ (rw e at h)

  pub run_next_bytes : r ≡ min (at + word_bytes n) (length row) → row' ≡ sets row at (words_to_bytes (replicate n v))
      → sets row at (words_to_bytes rest) ≡ whole
      → sets row' r (words_to_bytes next) ≡ whole
  run_next_bytes to put h =
      let l : length (words_to_bytes (replicate n v)) ≡ word_bytes n = length-bytes (replicate n v) ∙ ap word_bytes (length-replicate n v) in
      sym (run_put row at (words_to_bytes (replicate n v)) (words_to_bytes next) put (omega arith))
      ∙ (rw (e, bytes-append (replicate n v) next) at h)

-- A row as far as it is filled, with zeros behind: what stands there in the row itself does not count.
abbrev pub blank_from : ℕ → List ℕ → List ℕ
blank_from at row = take at row ++ zeros (length row - at)

-- the first elements of what is put over a buffer
take-over : (new old : List ℕ) (m : ℕ) → m ≤ length new → m ≤ length old → take m (over new old) ≡ take m new
unfolding over
take-over new old m h g =
    take-append-le m (take (length old) new) (drop (length new) old) (omega (arith, length-take (length old) new))
    ∙ take-take m (length old) new g

-- A run is stored with more behind it than it has, and only the run counts.
module _ (row run more : List ℕ) (at : ℕ) (within : at ≤ length row) where
  filled : (m : ℕ) → m ≡ min (length run) (length row - at) → take (at + m) (sets row at (run ++ more)) ≡ take at row ++ take m run
  filled m e =
      let old = drop at row in
      let l : length (take at row) ≡ at = length-take-le at row within in
      let k : length old ≡ length row - at = length-drop at row in
      ap (take (at + m)) (sets_part row at (run ++ more))
      ∙ ap (λ (i : ℕ). take (i + m) (take at row ++ over (run ++ more) old)) (sym l)
      ∙ take-append-add (take at row) (over (run ++ more) old) m
      ∙ ap (λ (x : List ℕ). take at row ++ x)
      (take-over (run ++ more) old m (omega (arith, length-append run more)) (omega arith) ∙ take-append-le m run more (omega arith))

  put_blank : (m : ℕ) → m ≡ min (length run) (length row - at)
      → sets (blank_from at row) at run ≡ (take at row ++ take m run) ++ zeros (length row - at - m)
  put_blank m e =
      let k = length row - at in
      let l : length (take at row) ≡ at = length-take-le at row within in
      let z : length (zeros k) ≡ k = length-replicate k 0 in
      sets_part (blank_from at row) at run
      ∙ (λ i. take_at (take at row) (zeros k) at l i ++ over run (drop_at (take at row) (zeros k) at l i))
      ∙ ap (λ (x : List ℕ). take at row ++ x) (sym (cut run (zeros k) m (omega arith)) ∙ ap (λ (x : List ℕ). take m run ++ x) (drop-replicate m k 0))
      ∙ sym (append_assoc (take at row) (take m run) (zeros (k - m)))

  pub blank-run : {row' : List ℕ} {r : ℕ} → row' ≡ sets row at (run ++ more) → r ≡ min (at + length run) (length row)
      → blank_from r row' ≡ sets (blank_from at row) at run
  blank-run {row'} {r} put e =
      let m = r - at in
      let f : m ≡ min (length run) (length row - at) = omega arith in
      let s : at + m ≡ r = omega arith in
      let l : length row' - r ≡ length row - at - m = omega (arith, ap length put ∙ length-sets row at (run ++ more)) in
      (λ i. (ap (take r) put ∙ ap (λ (j : ℕ). take j (sets row at (run ++ more))) (sym s) ∙ filled m f) i ++ zeros (l i)) ∙ sym (put_blank m f)

blank-length : (row : List ℕ) (at : ℕ) → at ≤ length row → length (blank_from at row) ≡ length row
blank-length row at h =
    omega (arith, length-append (take at row) (zeros (length row - at)), length-take-le at row h, length-replicate {A = ℕ} (length row - at) 0)

-- The loop over runs where at least eight pixels are stored for each.
pub run_next_blank : (row : List ℕ) (at n v : ℕ) (rest next whole : List ℕ) {row' : List ℕ} {r : ℕ} → rest ≡ replicate n v ++ next → at ≤ length row
    → r ≡ min (at + word_bytes n) (length row)
    → row' ≡ sets row at (words_to_bytes (replicate (max n 8) v))
    → sets (blank_from at row) at (words_to_bytes rest) ≡ whole
    → sets (blank_from r row') r (words_to_bytes next) ≡ whole
run_next_blank row at n v rest next whole {row'} {r} e within to put h =
    let run = words_to_bytes (replicate n v) in
    let more = words_to_bytes (replicate (8 - n) v) in
    let l : length run ≡ word_bytes n = length-bytes (replicate n v) ∙ ap word_bytes (length-replicate n v) in
    let k : n + (8 - n) ≡ max n 8 = omega arith in
    let spilt : words_to_bytes (replicate (max n 8) v) ≡ run ++ more =
    ap (λ (m : ℕ). words_to_bytes (replicate m v)) (sym k)
    ∙ ap words_to_bytes (sym (replicate-append-replicate n (8 - n) v))
    ∙ bytes-append (replicate n v) (replicate (8 - n) v) in
    run_next_bytes (blank_from at row) at n v rest next whole e (to ∙ ap (λ (m : ℕ). min (at + word_bytes n) m) (sym (blank-length row at within)))
    (blank-run row run more at within (put ∙ ap (λ (x : List ℕ). sets row at x) spilt) (to ∙ ap (λ (m : ℕ). min (at + m) (length row)) (sym l)))
    h

-- at the start nothing counts
pub blank-first : (row new : List ℕ) → sets (blank_from 0 row) 0 new ≡ over new (zeros (length row))
blank-first row new =
    let e : length row - 0 ≡ length row = omega arith in
    sets_over new (zeros (length row - 0)) ∙ ap (λ (n : ℕ). over new (zeros n)) e

-- at the end what lies behind is cleared
pub blank_last : (row part : List ℕ) (at : ℕ) → at ≤ length row → part ≡ zeros (length (mid_of at (length row - at) row))
    → put_mid at (length row - at) row part ≡ blank_from at row
blank_last row part at h e =
    let l : length (mid_of at (length row - at) row) ≡ length row - at = ap length (tail_is at row) ∙ length-drop at row in
    put_tail at row part ∙ ap (λ (x : List ℕ). take at row ++ x) (e ∙ ap zeros l)

-- the same of what was put over the start
pub blank-over : (new row : List ℕ) (end : ℕ) → length new ≡ end → end ≤ length row → blank_from end (over new row) ≡ over new (zeros (length row))
blank-over new row end l h =
    blank-run row new [] 0 zero-le {row' = over new row} {r = end} (sym (sets_over new row) ∙ ap (λ (x : List ℕ). sets row 0 x) (sym (append-nil new))) (omega arith) ∙ blank-first row new
