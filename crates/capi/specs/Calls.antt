-- Paper 02, P2, P5 and P7: the calls of the C library, each as its result and its numbers, and how many bytes these take. They are those
-- of the calls of the library itself.
use Rattle.std.specs.Prelude.{ℕ, List, [], ◌∷◌}
use Rattle.header.specs.Reading.{HeaderNumbers, header_reading}
use Rattle.color.specs.Color.{ColorNumbers, color_reading, plotter_reading}
use Rattle.layout.specs.Reading.{RasterNumbers}
use Rattle.layout.specs.PixelBytes.{bytes_reading}
use Rattle.encode_header.specs.Picture.{Picture}
use Rattle.encode_raster.specs.Writing.{writing}
use Rattle.encode_answer.specs.Sizes.{WriteNumbers}
use Rattle.transcode.specs.Transcoding.{transcoding}
use Rattle.answers.specs.Answer.{Call}

-- type, blocks, PPL, NOL, resolution ("0 none, 1 microns or 2 dots and then its size"), SLO, SCN, CTV and CTE
abbrev pub header_size : ℕ
header_size = 40

abbrev pub header_call : HeaderNumbers → Call
header_call h =
    record {
      result = h.number;
      numbers =
          h.data_type ∷ (h.blocks ∷ (h.ppl ∷ (h.nol ∷ (h.resolution.kind ∷ (h.resolution.size ∷ (h.slo ∷ (h.scn ∷ (h.ctv ∷ (h.cte ∷ [])))))))));
    }

-- the good scanlines, and the end
abbrev pub raster_size : ℕ
raster_size = 8

abbrev pub raster_call : RasterNumbers → Call
raster_call a = record { result = a.answer; numbers = a.good ∷ (a.end ∷ []) }

-- red, green and blue
abbrev pub color_size : ℕ
color_size = 12

abbrev pub color_call : ColorNumbers → Call
color_call c = record { result = c.number; numbers = c.red ∷ (c.green ∷ (c.blue ∷ [])) }

-- the written length
abbrev pub write_size : ℕ
write_size = 4

abbrev pub write_call : WriteNumbers → Call
write_call w = record { result = w.number; numbers = w.size ∷ [] }

-- the calls of a file and of a picture. Moving a sheet to the other type is a call that writes.
abbrev pub c_header : List ℕ → Call
c_header f = header_call (header_reading f)

abbrev pub c_raster : List ℕ → List ℕ → List ℕ → Call
c_raster f pixels marks = raster_call (bytes_reading f pixels marks)

abbrev pub c_color : List ℕ → ℕ → Call
c_color f v = color_call (color_reading f v)

abbrev pub c_plotter_color : List ℕ → ℕ → Call
c_plotter_color f v = color_call (plotter_reading f v)

abbrev pub c_write : Picture → ℕ → Call
c_write i room = write_call (writing i room)

abbrev pub c_move : List ℕ → ℕ → Call
c_move f room = write_call (transcoding f room)
