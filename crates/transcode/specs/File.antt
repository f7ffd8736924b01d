-- Paper 02, P5: "move a sheet from type 1 to type 9 and back". The file that a sheet becomes.
use Rattle.std.specs.Prelude.{ℕ, zero, suc, cond, List, [], ◌++◌, take, eqb}
use Rattle.units.specs.Words.{word_count}
use Rattle.codec.specs.Table.{body_bytes}
use Rattle.layout.specs.Chain.{Raster, sheet_of, head_at, reading_at}
use Rattle.transcode_parts.specs.Headers.{other_type, with_type, fitted}

-- "Header blocks are carried over except for DTC"
abbrev pub carried_header : List ℕ → List ℕ
carried_header f = with_type (take (sheet_of f).data_start f) (other_type (sheet_of f).data_type)

-- "line headers are kept, with W fitted" to the body
abbrev pub fitted_header : List ℕ → List ℕ → List ℕ
fitted_header hd body = fitted hd (word_count body).0

-- "bodies are as our writer makes them", of the row that a scanline reads as. t is the new data type and hd the scanline's header.
unfoldable pub new_line : ℕ → ℕ → List ℕ → List ℕ → List ℕ
new_line scn t hd row = cond (eqb scn 1) (fitted_header hd (body_bytes t scn row) ++ body_bytes t scn row) (body_bytes t scn row)

abbrev pub new_line_at : Raster → ℕ → List ℕ
new_line_at r k = new_line r.scn (other_type r.data_type) (head_at r k) (reading_at r k).row

-- the first k scanlines
unfoldable pub new_lines : Raster → ℕ → List ℕ
new_lines r zero = []
new_lines r (suc k) = new_lines r k ++ new_line_at r k

-- the whole file. "Bytes after the last line are dropped"
unfoldable pub transcoded : List ℕ → List ℕ
transcoded f = carried_header f ++ new_lines (sheet_of f) (sheet_of f).nol
