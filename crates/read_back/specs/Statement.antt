-- "Reading them gives back every pixel": one claim about a file that was written and its reading.
use Rattle.std.specs.Prelude.{ℕ, ◌+◌, ◌*◌, ◌≤◌, ◌<◌, ◌≡◌, cond, List, ◌++◌, length, get_or, drop, eqb, ltb}
use Rattle.units.specs.Over.{zeros}
use Rattle.header.specs.Resolution.{resolution_of}
use Rattle.header.specs.Reading.{HeaderNumbers, header_reading}
use Rattle.color.specs.Color.{ColorNumbers, scaled, color, no_color, gray_color, is_inked, ink_color, color_reading, plotter_reading}
use Rattle.layout.specs.Reading.{raster_reading, pixels_after, marks_after}
use Rattle.encode_header.specs.Picture.{Picture, picture_pixels}
use Rattle.encode_header.specs.Header.{ctv_of, blocks_of}
use Rattle.encode_raster.specs.File.{file_bytes}
use Rattle.encode_raster.specs.Writing.{writer_rejection}

-- the header's fields are those given
abbrev pub given_header : Picture → HeaderNumbers
given_header i =
    record {
      number = 0;
      data_type = i.dtc;
      blocks = (blocks_of i.table).0;
      ppl = i.ppl;
      nol = i.nol;
      resolution = resolution_of i.drs;
      slo = i.slo;
      scn = i.scn;
      ctv = ctv_of i.table;
      cte = 0;
    }

-- the plotter's colors are those of the table, or grays without one
abbrev pub given_plotter_color : Picture → ℕ → ColorNumbers
given_plotter_color i v =
    cond (eqb (length i.table) 0) (gray_color v)
    (cond (ltb 255 v) (no_color 25)
    (color (scaled (get_or i.table (3 * v) 0)) (scaled (get_or i.table (3 * v + 1) 0)) (scaled (get_or i.table (3 * v + 2) 0))))

-- the colors that are shown are the same, but for types 1 and 9 without a table: ink on paper
abbrev pub given_color : Picture → ℕ → ColorNumbers
given_color i v = cond (is_inked i.dtc (ctv_of i.table)) (ink_color v) (given_plotter_color i v)

-- the written file read into buffers that held pixels and marks, with room for it
pub record ReadsBack (i : Picture) (pixels marks : List ℕ) : Type 0 where
  pub header : header_reading (file_bytes i) ≡ given_header i
  pub colors : (v : ℕ) → color_reading (file_bytes i) v ≡ given_color i v
  pub plotter_colors : (v : ℕ) → plotter_reading (file_bytes i) v ≡ given_plotter_color i v
  -- not rejected, every scanline good, and the end is the written length
  pub answer : raster_reading (file_bytes i) pixels marks ≡ record { answer = 0; good = i.nol; end = length (file_bytes i) }
  pub marks_are : marks_after (file_bytes i) pixels marks ≡ zeros i.nol ++ drop i.nol marks
  -- the pixels given, then what was there
  pub pixels_are : pixels_after (file_bytes i) pixels marks ≡ picture_pixels i ++ drop (i.nol * i.ppl) pixels

-- "Reading them gives back every pixel", of the definitions that the promises of `write_raster` and `read_raster` cite, for every
-- picture that the writer does not reject, with DRS in 16 bits. `reads_back` proves it.
abbrev pub AllReadBack : Type 0
AllReadBack =
    (i : Picture) (room : ℕ) (pixels marks : List ℕ)
    → i.drs < 65536
    → writer_rejection i room ≡ 0
    → i.nol * i.ppl ≤ length pixels
    → i.nol ≤ length marks
    → ReadsBack i pixels marks
