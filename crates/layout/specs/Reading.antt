-- "Reading a sheet": the reading of a sheet into a buffer of pixels and a buffer of statuses, as the paper's numbers, and what
-- the buffers hold then.
use Rattle.std.specs.Prelude.{ℕ, ◌+◌, ◌*◌, ◌≡◌, cond, List, [], ◌∷◌, ◌++◌, length, take, drop, eqb, ltb}
use Rattle.units.specs.Rules.{Rule, rule, first}
use Rattle.header.specs.Rejections.{rules_to22}
use Rattle.layout.specs.Chain.{Raster, sheet_of, rows, statuses, one_if_good, good_count, end_of}

-- "Numbers a call is refused with": a file's, then 23 and 24
abbrev pub buffer_rules : ℕ → ℕ → ℕ → ℕ → List Rule
buffer_rules ppl nol pixels marks = rule 23 (ltb pixels (nol * ppl)) ∷ rule 24 (ltb marks nol) ∷ []

abbrev pub raster_rules : List ℕ → ℕ → ℕ → List Rule
raster_rules f pixels marks = rules_to22 f ++ buffer_rules (sheet_of f).ppl (sheet_of f).nol pixels marks

unfoldable pub raster_rejection : List ℕ → ℕ → ℕ → ℕ
raster_rejection f pixels marks = first (raster_rules f pixels marks)

-- 0 where every scanline is good, 1 where not, or the number of the rejection; how many are good; and the end
pub record RasterNumbers : Type 0 where
  pub answer : ℕ
  pub good : ℕ
  pub end : ℕ

-- 0 where all of n are good, else 1
abbrev pub answer_of : ℕ → ℕ → ℕ
answer_of good n = cond (eqb good n) 0 1

abbrev pub read_numbers : Raster → RasterNumbers
read_numbers r = record { answer = answer_of (good_count r r.nol) r.nol; good = good_count r r.nol; end = end_of r }

abbrev pub rejected_raster : ℕ → RasterNumbers
rejected_raster n = record { answer = n; good = 0; end = 0 }

-- the answer, and the two buffers, where they were pixels and marks
unfoldable pub raster_reading : List ℕ → List ℕ → List ℕ → RasterNumbers
raster_reading f pixels marks =
    cond (eqb (raster_rejection f (length pixels) (length marks)) 0) (read_numbers (sheet_of f))
    (rejected_raster (raster_rejection f (length pixels) (length marks)))

unfoldable pub pixels_after : List ℕ → List ℕ → List ℕ → List ℕ
pixels_after f pixels marks =
    let r = sheet_of f in
    cond (eqb (raster_rejection f (length pixels) (length marks)) 0) (rows r r.nol ++ drop (r.nol * r.ppl) pixels) pixels

unfoldable pub marks_after : List ℕ → List ℕ → List ℕ → List ℕ
marks_after f pixels marks =
    let r = sheet_of f in
    cond (eqb (raster_rejection f (length pixels) (length marks)) 0) (statuses r r.nol ++ drop r.nol marks) marks

-- how many of these statuses are 0
unfoldable pub count_good : List ℕ → ℕ
count_good [] = 0
count_good (s ∷ r) = one_if_good s + count_good r

-- The number of good scanlines is the number of zeros among the statuses as they stand in the buffer afterwards, from the first
-- scanline to the last. `good_counted` proves it.
abbrev pub GoodCounted : Type 0
GoodCounted =
    (f pixels marks : List ℕ)
    → raster_rejection f (length pixels) (length marks) ≡ 0
    → (raster_reading f pixels marks).good ≡ count_good (take (sheet_of f).nol (marks_after f pixels marks))
