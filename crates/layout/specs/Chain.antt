-- "Line headers and bodies" and "Reading a sheet": the chain of scanlines of a raster. Scanlines are counted from 0 here, so
-- that line k of the paper is the scanline k - 1.
use Rattle.std.specs.Prelude.{ℕ, zero, suc, ◌+◌, Bool, true, not, cond, ◌&&◌, List, [], ◌∷◌, ◌++◌, drop, eqb}
use Rattle.units.specs.Counts.{bytes_of_blocks}
use Rattle.fields.specs.Fields.{fields_of, header_blocks}
use Rattle.numbering.specs.Numbering.{first_past, wanted_number, stored_number}
use Rattle.layout.specs.declared.RasterLayout.{RasterLayout}
use Rattle.layout.specs.Scanline.{Reading, Step, head_of, body_of, step_of, reading_of, unreached}

-- A raster: the bytes that its scanlines may look at, the byte where its data start, SCN, data type, pixels per line and
-- number of lines.
pub record Raster : Type 0 where
  pub bytes : List ℕ
  pub data_start : ℕ
  pub scn : ℕ
  pub data_type : ℕ
  pub ppl : ℕ
  pub nol : ℕ

-- the sheet (the paper's term): the raster of a whole file
abbrev pub sheet_of : List ℕ → Raster
sheet_of f =
    record {
      bytes = f;
      data_start = (bytes_of_blocks (header_blocks (fields_of f))).0;
      scn = (fields_of f).scn;
      data_type = (fields_of f).dtc;
      ppl = (fields_of f).ppl;
      nol = (fields_of f).nol;
    }

-- the raster that the readers are handed
abbrev pub raster_of : RasterLayout → Raster
raster_of l =
    record { bytes = l.bytes.now; data_start = l.start; scn = l.scn; data_type = l.dtc; ppl = l.ppl; nol = l.nol }

-- the bytes from byte s on, and the step of a scanline that starts there
abbrev pub from : Raster → ℕ → List ℕ
from r s = drop s r.bytes

abbrev pub step_at : Raster → ℕ → Step
step_at r s = step_of r.scn r.data_type r.ppl (from r s)

-- Where scanline k starts. A lost one uses no byte, so every scanline after it starts where it does.
unfoldable pub start : Raster → ℕ → ℕ
start r zero = r.data_start
start r (suc k) = start r k + (step_at r (start r k)).used.0

-- the chain reaches scanline k when none before it is lost
unfoldable pub reached : Raster → ℕ → Bool
reached r zero = true
reached r (suc k) = reached r k && not (step_at r (start r k)).lost

-- the header bytes and the body of scanline k, as far as they lie in the file; a scanline that is not reached has no body
abbrev pub head_at : Raster → ℕ → List ℕ
head_at r k = head_of (from r (start r k))

abbrev pub body_at : Raster → ℕ → List ℕ
body_at r k = cond (reached r k) (body_of (from r (start r k))) []

-- the number in line 65,536, which decides where the line numbers roll over to (paper 02, P6); no line before it goes by it
unfoldable pub rollover_of : Raster → ℕ
rollover_of r = stored_number (head_at r first_past)

-- the line number that scanline k must have
abbrev pub number_of : Raster → ℕ → ℕ
number_of r k = wanted_number (rollover_of r) k

-- the reading of scanline k
unfoldable pub reading_at : Raster → ℕ → Reading
reading_at r k =
    cond (reached r k) (reading_of r.scn r.data_type r.ppl (number_of r k) (from r (start r k))) (unreached r.ppl)

-- of the first k scanlines: their statuses, their rows one after the other, and how many have the status 0
unfoldable pub statuses : Raster → ℕ → List ℕ
statuses r zero = []
statuses r (suc k) = statuses r k ++ ((reading_at r k).status ∷ [])

unfoldable pub rows : Raster → ℕ → List ℕ
rows r zero = []
rows r (suc k) = rows r k ++ (reading_at r k).row

abbrev pub one_if_good : ℕ → ℕ
one_if_good status = cond (eqb status 0) 1 0

unfoldable pub good_count : Raster → ℕ → ℕ
good_count r zero = 0
good_count r (suc k) = good_count r k + one_if_good (reading_at r k).status

-- the byte after the last scanline, or the first byte of the lost one
abbrev pub end_of : Raster → ℕ
end_of r = start r r.nol
