-- The two whole calls, as the promises of `transcode` and `read_raster` have them, and what they come to.
use Rattle.std.specs.Prelude.{ℕ, ◌≤◌, ◌≡◌, List, ◌++◌, length, take, drop, Result}
use Rattle.refusals.specs.declared.Rejection.{Rejection}
use Rattle.units.specs.declared.Bytes.{Bytes}
use Rattle.header.specs.Reading.{header_reading}
use Rattle.layout.specs.Chain.{sheet_of}
use Rattle.layout.specs.Reading.{rejected_raster, raster_reading, pixels_after, marks_after}
use Rattle.decode_raster.specs.Answer.{raster_numbers}
use Rattle.encode_answer.specs.Answer.{write_numbers}
use Rattle.transcode_parts.specs.Headers.{other_type}
use Rattle.transcode.specs.Transcoding.{transcoding, out_transcoded}
use Rattle.there_and_back.specs.Statement.{with_data_type}
use Rattle.two_transcodings.specs.declared.TwoMoves.{TwoMoves}
use Rattle.two_transcodings.specs.declared.MovedReading.{MovedReading}

-- the file that a move wrote: as many bytes of the output as it says
abbrev pub written : Result Bytes Rejection → List ℕ → List ℕ
written a out = take (write_numbers a).size out

-- The first move; where it is rejected there is no second, and that one's answer has the number of the first; else what was written is
-- moved.
pub record BothMoves (f between out : List ℕ) (r : TwoMoves) (between' out' : List ℕ) : Type 0 where
  pub there_is : write_numbers r.there ≡ transcoding f (length between)
  pub between_is : between' ≡ out_transcoded f between
  pub unmoved : ((write_numbers r.there).number ≡ 0 → ⊥) → (write_numbers r.back ≡ record { number = (write_numbers r.there).number; size = 0 }) × (out' ≡ out)
  pub back_is : (write_numbers r.there).number ≡ 0
      → (write_numbers r.back ≡ transcoding (written r.there between') (length out)) × (out' ≡ out_transcoded (written r.there between') out)

-- the file is there again, and behind it what was there
pub record IsBack (f out : List ℕ) (r : TwoMoves) (out' : List ℕ) : Type 0 where
  pub size : (write_numbers r.back).size ≡ length f
  pub bytes : out' ≡ f ++ drop (length f) out

-- The move; where it is rejected nothing is read, and the reading's answer has its number, which is 10 or above; else what was written is
-- read.
pub record MovedAndRead (f out pixels marks : List ℕ) (r : MovedReading) (out' pixels' marks' : List ℕ) : Type 0 where
  pub moved_is : write_numbers r.moved ≡ transcoding f (length out)
  pub out_is : out' ≡ out_transcoded f out
  pub unread : ((write_numbers r.moved).number ≡ 0 → ⊥)
      → (raster_numbers r.read ≡ rejected_raster (write_numbers r.moved).number) × ((10 ≤ (raster_numbers r.read).answer) × ((pixels' ≡ pixels) × (marks' ≡ marks)))
  pub read_is : (write_numbers r.moved).number ≡ 0
      → (raster_numbers r.read ≡ raster_reading (written r.moved out') pixels marks)
      × ((pixels' ≡ pixels_after (written r.moved out') pixels marks) × (marks' ≡ marks_after (written r.moved out') pixels marks))

-- every line is good and the end is the written length; pixels and marks are those that reading the old file leaves, and the header's fields
-- are the old ones but for the type
pub record SameReading (f pixels marks : List ℕ) (r : MovedReading) (out' pixels' marks' : List ℕ) : Type 0 where
  pub answer : raster_numbers r.read ≡ record { answer = 0; good = (sheet_of f).nol; end = (write_numbers r.moved).size }
  pub pixels_are : pixels' ≡ pixels_after f pixels marks
  pub marks_are : marks' ≡ marks_after f pixels marks
  pub header : header_reading (written r.moved out') ≡ with_data_type (other_type (sheet_of f).data_type) (header_reading f)
