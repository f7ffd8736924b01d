-- The two whole calls, as the promises of `write_raster` and `read_raster` have them, and what reading gives back.
use Rattle.std.specs.Prelude.{ℕ, ◌*◌, ◌≤◌, ◌≡◌, List, ◌++◌, length, take, drop}
use Rattle.units.specs.Over.{zeros}
use Rattle.header.specs.Reading.{header_reading}
use Rattle.color.specs.Color.{color_reading, plotter_reading}
use Rattle.layout.specs.Reading.{RasterNumbers, rejected_raster, raster_reading, pixels_after, marks_after}
use Rattle.decode_raster.specs.Answer.{raster_numbers}
use Rattle.encode_header.specs.Picture.{Picture, picture_pixels}
use Rattle.encode_raster.specs.Writing.{writing, out_after}
use Rattle.encode_answer.specs.Answer.{write_numbers}
use Rattle.read_back.specs.Statement.{given_header, given_color, given_plotter_color}
use Rattle.round_trip.specs.declared.RoundTrip.{RoundTrip}

-- the written file: as many bytes of the output as the writer says
abbrev pub written : RoundTrip → List ℕ → List ℕ
written r out = take (write_numbers r.written).size out

-- The writer's call. Where it rejects the picture nothing is read, and the reader's answer is that of a reading rejected with the
-- writer's number, which is not 0 (every line good) or 1 (not): every number of a rejection is 10 or above. Else what was written is read.
pub record BothCalls (i : Picture) (out back marks : List ℕ) (r : RoundTrip) (out' back' marks' : List ℕ) : Type 0 where
  pub wrote : write_numbers r.written ≡ writing i (length out)
  pub out_is : out' ≡ out_after i out
  pub unread : ((write_numbers r.written).number ≡ 0 → ⊥) → (raster_numbers r.read ≡ rejected_raster (write_numbers r.written).number) × ((10 ≤ (raster_numbers r.read).answer) × ((back' ≡ back) × (marks' ≡ marks)))
  pub read_is : (write_numbers r.written).number ≡ 0 → (raster_numbers r.read ≡ raster_reading (written r out') back marks) × ((back' ≡ pixels_after (written r out') back marks) × (marks' ≡ marks_after (written r out') back marks))

abbrev pub given : Picture → ℕ → RasterNumbers
given i n = record { answer = 0; good = i.nol; end = n }

-- Nothing is rejected, every mark is 0, the end is the written length, the header's fields are those given, the colors are those of the
-- table or of a file of this type without one, and the buffer holds the pixels given and then what was there.
pub record GivenBack (i : Picture) (back marks : List ℕ) (r : RoundTrip) (out' back' marks' : List ℕ) : Type 0 where
  pub wrote : (write_numbers r.written).number ≡ 0
  pub answer : raster_numbers r.read ≡ given i (write_numbers r.written).size
  pub marks_are : marks' ≡ zeros i.nol ++ drop i.nol marks
  pub pixels_are : back' ≡ picture_pixels i ++ drop (i.nol * i.ppl) back
  pub header : header_reading (written r out') ≡ given_header i
  pub colors : (v : ℕ) → color_reading (written r out') v ≡ given_color i v
  pub plotter_colors : (v : ℕ) → plotter_reading (written r out') v ≡ given_plotter_color i v
