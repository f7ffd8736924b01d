-- "Writing a sheet": the bytes of a file.
use Rattle.std.specs.Prelude.{ℕ, zero, suc, ◌+◌, cond, List, [], ◌∷◌, ◌++◌, ◌==◌}
use Rattle.units.specs.Words.{words_to_bytes, word_count}
use Rattle.codec.specs.Table.{body_bytes}
use Rattle.numbering.specs.Numbering.{written_number}
use Rattle.encode_header.specs.Picture.{Picture, row_at}
use Rattle.encode_header.specs.Header.{header_bytes}

-- the scanline header: identifier 5900h, words to follow, line number, pixel offset 0
abbrev pub line_header : ℕ → List ℕ → List ℕ
line_header number body = words_to_bytes (0x5900 ∷ (((word_count body).0 + 2) ∷ (number ∷ (0 ∷ []))))

unfoldable pub line_bytes : ℕ → ℕ → ℕ → List ℕ → List ℕ
line_bytes t scn number row = cond (scn == 1) (line_header number (body_bytes t scn row) ++ body_bytes t scn row) (body_bytes t scn row)

-- the first k scanlines
unfoldable pub lines_of : Picture → ℕ → List ℕ
lines_of i zero = []
lines_of i (suc k) = lines_of i k ++ line_bytes i.dtc i.scn (written_number k) (row_at i k)

-- the whole file
unfoldable pub file_bytes : Picture → List ℕ
file_bytes i = header_bytes i ++ lines_of i i.nol
