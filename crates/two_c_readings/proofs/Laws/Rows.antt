-- Rows of bytes, where the rows of pixels stand: the reading into bytes is that into pixels, for a buffer with as much room.
use Rattle.std.specs.Prelude.{ℕ, zero, suc, ◌*◌, ◌/◌, ◌<◌, ◌≡◌, List, ◌++◌, length, take, eqb}
use Rattle.std.proofs.Common.{sym, ◌∙◌, append_assoc, zero-mul, suc-mul, arith, length-append, take_at, drop_at, inl, inr}
use Rattle.std.proofs.Math.Path.{ap}
use Rattle.std.proofs.Math.Bool.{cond}
use Rattle.std.proofs.Math.ListN.{drop}
use borrow.Author.Tests.{eq-eqb}
use Rattle.units.specs.Counts.{word_bytes}
use Rattle.units.specs.Words.{words_to_bytes}
use Rattle.units.proofs.Laws.Numbers.{below_next}
use Rattle.units.proofs.Laws.Stores.{length-bytes, bytes-append}
use Rattle.layout.specs.Chain.{Raster, sheet_of, reading_at, rows, statuses}
use Rattle.layout.specs.Reading.{read_numbers, rejected_raster, raster_rejection, raster_reading, pixels_after, marks_after}
use Rattle.layout.specs.PixelBytes.{bytes_rejection, bytes_reading, pixel_bytes_after, byte_marks_after}
use Rattle.layout.proofs.Laws.Chain.{length-reading}
use Rattle.layout.proofs.Laws.PixelBytes.{bytes_rejection_lem}
use Rattle.isolation.proofs.Laws.Buffers.{row_there}
use Rattle.two_c_readings.specs.Statement.{byte_row}

length-row-bytes : (r : Raster) (k : ℕ) → length (words_to_bytes (reading_at r k).row) ≡ word_bytes r.ppl
length-row-bytes r k = length-bytes (reading_at r k).row ∙ ap word_bytes (length-reading r k)

pub length-rows-bytes : (r : Raster) (n : ℕ) → length (words_to_bytes (rows r n)) ≡ n * word_bytes r.ppl
unfolding rows words_to_bytes
length-rows-bytes r zero = sym (zero-mul (word_bytes r.ppl))
length-rows-bytes r (suc n) =
    rw (bytes-append (rows r n) (reading_at r n).row, length-append (words_to_bytes (rows r n)) (words_to_bytes (reading_at r n).row))
    (omega (arith, length-rows-bytes r n, length-row-bytes r n, suc-mul n (word_bytes r.ppl)))

-- row k of n, whatever follows
pub bytes_there : (r : Raster) (n k : ℕ) (rest : List ℕ) → k < n → byte_row r.ppl k (words_to_bytes (rows r n) ++ rest) ≡ words_to_bytes (reading_at r k).row
unfolding rows
bytes_there r zero k rest h = absurd (omega arith)
bytes_there r (suc n) k rest h =
    rw (
      bytes-append (rows r n) (reading_at r n).row,
      append_assoc (words_to_bytes (rows r n)) (words_to_bytes (reading_at r n).row) rest,
    )
    (elim (below_next k n h) [
      | inl l ↦ bytes_there r n k (words_to_bytes (reading_at r n).row ++ rest) l
      | inr e ↦ rw (
        e,
        drop_at (words_to_bytes (rows r n)) (words_to_bytes (reading_at r n).row ++ rest) (n * word_bytes r.ppl) (length-rows-bytes r n),
        take_at (words_to_bytes (reading_at r n).row) rest (word_bytes r.ppl) (length-row-bytes r n),
      )
    ])

-- The two readings of a file, into bytes and into a buffer with room for as many pixels.
module _ (f bytes pixels marks : List ℕ) (room : length pixels ≡ length bytes / 2) where
  pub same_number : bytes_rejection f (length bytes) (length marks) ≡ raster_rejection f (length pixels) (length marks)
  same_number = bytes_rejection_lem f (length bytes) (length marks) ∙ ap (λ (n : ℕ). raster_rejection f n (length marks)) (sym room)

  pub same_numbers : bytes_reading f bytes marks ≡ raster_reading f pixels marks
  unfolding bytes_reading raster_reading
  same_numbers = ap (λ (n : ℕ). cond (eqb n 0) (read_numbers (sheet_of f)) (rejected_raster n)) same_number

  pub same_marks : byte_marks_after f bytes marks ≡ marks_after f pixels marks
  unfolding byte_marks_after marks_after
  same_marks = ap (λ (n : ℕ). cond (eqb n 0) (statuses (sheet_of f) (sheet_of f).nol ++ drop (sheet_of f).nol marks) marks) same_number

  module _ (none : raster_rejection f (length pixels) (length marks) ≡ 0) (k : ℕ) (h : k < (sheet_of f).nol) where
    pub same_row : byte_row (sheet_of f).ppl k (pixel_bytes_after f bytes marks) ≡ words_to_bytes (take (sheet_of f).ppl (drop (k * (sheet_of f).ppl) (pixels_after f pixels marks)))
    unfolding pixel_bytes_after pixels_after
    same_row =
        let r = sheet_of f in
        rw (eq-eqb (bytes_rejection f (length bytes) (length marks)) 0 (same_number ∙ none), eq-eqb (raster_rejection f (length pixels) (length marks)) 0 none)
        (bytes_there r r.nol k (drop (word_bytes (r.nol * r.ppl)) bytes) h
        ∙ ap words_to_bytes (sym (row_there r r.nol k (drop (r.nol * r.ppl) pixels) h)))
