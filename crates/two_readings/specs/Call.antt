-- One whole call, as the promise of `read_raster` has it, and demand 3 of two.
use Rattle.std.specs.Prelude.{ℕ, ◌≡◌, Result, List}
use Rattle.refusals.specs.declared.Rejection.{Rejection}
use Rattle.layout.specs.Reading.{raster_reading, pixels_after, marks_after}
use Rattle.decode_raster.specs.declared.Reading.{Reading}
use Rattle.decode_raster.specs.Answer.{raster_numbers}

pub record ReadingOf (f pixels marks : List ℕ) (r : Result Reading Rejection) (pixels' marks' : List ℕ) : Type 0 where
  pub answer : raster_numbers r ≡ raster_reading f pixels marks
  pub pixels_are : pixels' ≡ pixels_after f pixels marks
  pub marks_are : marks' ≡ marks_after f pixels marks
