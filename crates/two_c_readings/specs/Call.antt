-- One whole call of `ingr_raster`, as its promise has it.
use Rattle.std.specs.Prelude.{ℕ, List}
use Rattle.answers.specs.Answer.{result_of, answer_after, unless_short}
use Rattle.layout.specs.PixelBytes.{pixel_bytes_after, byte_marks_after}
use Rattle.capi.specs.Calls.{raster_size, c_raster}

-- the result, and what the three lent slices hold afterwards
pub record Outcome : Type 0 where
  pub result : ℕ
  pub pixels : List ℕ
  pub marks : List ℕ
  pub answer : List ℕ

abbrev pub outcome : ℕ → List ℕ → List ℕ → List ℕ → Outcome
outcome result pixels marks answer = record { result = result; pixels = pixels; marks = marks; answer = answer }

-- the outcome of a call that is given the file f and is lent these slices
abbrev pub called : List ℕ → List ℕ → List ℕ → List ℕ → Outcome
called f pixels marks answer =
    outcome
    (result_of raster_size (c_raster f pixels marks) answer)
    (unless_short raster_size answer pixels (pixel_bytes_after f pixels marks))
    (unless_short raster_size answer marks (byte_marks_after f pixels marks))
    (answer_after raster_size (c_raster f pixels marks) answer)
