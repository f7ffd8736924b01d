-- Paper 02, P2: the reading of a sheet into a buffer of bytes, two for each pixel, low byte first. Numbers, statuses and rows are those of
-- the reading into pixels of 16 bits (`Reading`).
use Rattle.std.specs.Prelude.{ℕ, ◌*◌, cond, List, [], ◌∷◌, ◌++◌, length, drop, eqb, ltb}
use Rattle.units.specs.Counts.{word_bytes}
use Rattle.units.specs.Rules.{Rule, rule, first}
use Rattle.units.specs.Words.{words_to_bytes}
use Rattle.header.specs.Rejections.{rules_to22}
use Rattle.layout.specs.Chain.{sheet_of, rows, statuses}
use Rattle.layout.specs.Reading.{RasterNumbers, read_numbers, rejected_raster}

-- "23, in its place, a pixel slice shorter than 2 x PPL x NOL bytes", for a slice of `pixels` bytes
abbrev pub byte_buffer_rules : ℕ → ℕ → ℕ → ℕ → List Rule
byte_buffer_rules ppl nol pixels marks = rule 23 (ltb pixels (word_bytes (nol * ppl))) ∷ rule 24 (ltb marks nol) ∷ []

unfoldable pub bytes_rejection : List ℕ → ℕ → ℕ → ℕ
bytes_rejection f pixels marks = first (rules_to22 f ++ byte_buffer_rules (sheet_of f).ppl (sheet_of f).nol pixels marks)

-- the answer, and the two buffers, where they were pixels and marks
unfoldable pub bytes_reading : List ℕ → List ℕ → List ℕ → RasterNumbers
bytes_reading f pixels marks =
    cond (eqb (bytes_rejection f (length pixels) (length marks)) 0) (read_numbers (sheet_of f))
    (rejected_raster (bytes_rejection f (length pixels) (length marks)))

unfoldable pub pixel_bytes_after : List ℕ → List ℕ → List ℕ → List ℕ
pixel_bytes_after f pixels marks =
    let r = sheet_of f in
    cond (eqb (bytes_rejection f (length pixels) (length marks)) 0)
    (words_to_bytes (rows r r.nol) ++ drop (word_bytes (r.nol * r.ppl)) pixels)
    pixels

unfoldable pub byte_marks_after : List ℕ → List ℕ → List ℕ → List ℕ
byte_marks_after f pixels marks =
    let r = sheet_of f in
    cond (eqb (bytes_rejection f (length pixels) (length marks)) 0) (statuses r r.nol ++ drop r.nol marks) marks
