-- The sizes of the calls: the numbers of each take exactly the bytes that its answer slice must have.
use Rattle.std.specs.Prelude.{◌≡◌, length}
use Rattle.header.specs.Reading.{HeaderNumbers}
use Rattle.color.specs.Color.{ColorNumbers}
use Rattle.layout.specs.Reading.{RasterNumbers}
use Rattle.encode_answer.specs.Sizes.{WriteNumbers}
use Rattle.answers.specs.Answer.{number_bytes}
use Rattle.capi.specs.Calls.{header_size, header_call, raster_size, raster_call, color_size, color_call, write_size, write_call}

-- `answer_sizes` proves it.
pub record AnswerSizes : Type 0 where
  pub header : (h : HeaderNumbers) → length (number_bytes (header_call h).numbers) ≡ header_size
  pub raster : (a : RasterNumbers) → length (number_bytes (raster_call a).numbers) ≡ raster_size
  pub color : (c : ColorNumbers) → length (number_bytes (color_call c).numbers) ≡ color_size
  pub write : (w : WriteNumbers) → length (number_bytes (write_call w).numbers) ≡ write_size
