-- Paper 02, P5: "If no move is refused and nothing follows the last line, a type 1 sheet comes back from type 9 byte for byte, and a type
-- 9 sheet with such bodies from type 1." And what the paper takes for granted: the new sheet reads as the old one did.
use Rattle.std.specs.Prelude.{ℕ, ◌*◌, ◌≤◌, ◌<◌, ◌≡◌, cond, List, length, get_or, take, eqb}
use Rattle.codec.specs.Table.{body_bytes}
use Rattle.header.specs.Reading.{HeaderNumbers, header_reading}
use Rattle.color.specs.Color.{color_reading, plotter_reading}
use Rattle.layout.specs.Chain.{Raster, sheet_of, from, step_at, start, body_at, reading_at, end_of}
use Rattle.layout.specs.Reading.{raster_reading, pixels_after, marks_after}
use Rattle.transcode_parts.specs.Headers.{other_type}
use Rattle.transcode.specs.File.{transcoded}
use Rattle.transcode.specs.Transcoding.{transcode_rejection}

-- the bytes of a file
abbrev pub IsBytes : List ℕ → Type 0
IsBytes f = (i : ℕ) → get_or f i 0 < 256

-- the body of scanline k as it stands in the file: with a header what that counts, without one all that the scanline takes
abbrev pub stored_body : Raster → ℕ → List ℕ
stored_body r k = cond (eqb r.scn 1) (body_at r k) (take (step_at r (start r k)).used.0 (from r (start r k)))

-- "such bodies": as our writer makes them
abbrev pub BodiesAsWritten : Raster → Type 0
BodiesAsWritten r = (k : ℕ) → k < r.nol → stored_body r k ≡ body_bytes r.data_type r.scn (reading_at r k).row

-- "nothing follows the last line"
abbrev pub NothingFollows : List ℕ → Type 0
NothingFollows f = end_of (sheet_of f) ≡ length f

-- The claim, of the file that the promise of `transcode` cites. That it is not rejected the second time is asked of the call, not of the
-- file: `two_transcodings` makes both. `comes_back` proves it.
pub record ComesBack : Type 0 where
  pub packed : (f : List ℕ) (room : ℕ) → IsBytes f
      → transcode_rejection f room ≡ 0
      → NothingFollows f
      → (sheet_of f).data_type ≡ 1
      → transcoded (transcoded f) ≡ f
  pub runs : (f : List ℕ) (room : ℕ) → IsBytes f
      → transcode_rejection f room ≡ 0
      → NothingFollows f
      → (sheet_of f).data_type ≡ 9
      → BodiesAsWritten (sheet_of f)
      → transcoded (transcoded f) ≡ f

-- the header's answer with another data type
abbrev pub with_data_type : ℕ → HeaderNumbers → HeaderNumbers
with_data_type t h =
    record {
      number = h.number;
      data_type = t;
      blocks = h.blocks;
      ppl = h.ppl;
      nol = h.nol;
      resolution = h.resolution;
      slo = h.slo;
      scn = h.scn;
      ctv = h.ctv;
      cte = h.cte;
    }

-- the new sheet read into buffers that held pixels and marks, with room for it: the header but for its type, the colors, every mark and every
-- pixel are those of the old one
pub record ReadsAsBefore (f pixels marks : List ℕ) : Type 0 where
  pub header : header_reading (transcoded f) ≡ with_data_type (other_type (sheet_of f).data_type) (header_reading f)
  pub colors : (v : ℕ) → color_reading (transcoded f) v ≡ color_reading f v
  pub plotter_colors : (v : ℕ) → plotter_reading (transcoded f) v ≡ plotter_reading f v
  pub answer : raster_reading (transcoded f) pixels marks ≡ record { answer = 0; good = (sheet_of f).nol; end = length (transcoded f) }
  pub marks_are : marks_after (transcoded f) pixels marks ≡ marks_after f pixels marks
  pub pixels_are : pixels_after (transcoded f) pixels marks ≡ pixels_after f pixels marks

-- `reads_as_before` proves it.
abbrev pub AllReadAsBefore : Type 0
AllReadAsBefore =
    (f pixels marks : List ℕ) (room : ℕ)
    → transcode_rejection f room ≡ 0
    → (sheet_of f).nol * (sheet_of f).ppl ≤ length pixels
    → (sheet_of f).nol ≤ length marks
    → ReadsAsBefore f pixels marks
