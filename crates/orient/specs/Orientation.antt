-- "Plans scanned sideways": where the pixels of a sheet lie in the upright picture, by the three bits of the scanline
-- orientation (SLO). A sheet has n lines of p pixels; lines, pixels, rows and columns are counted from 0.
use Rattle.std.specs.Prelude.{ℕ, ◌+◌, ◌*◌, ◌/◌, ◌%◌, Bool, not, cond, List, eqb, get_or}
use Rattle.std.specs.Int.Bits.{bit_and}
use Rattle.moves.specs.Tabulate.{tabulate}
use Rattle.moves.specs.Moves.{mirror}

-- "Bit 0 set puts the first pixel at the right, bit 1 at the bottom"; bit 2 set: lines are rows, else they are columns
unfoldable pub bit_set : ℕ → ℕ → Bool
bit_set mask slo = not (eqb (bit_and slo mask) 0)

abbrev pub at_right : ℕ → Bool
at_right slo = bit_set 1 slo

abbrev pub at_bottom : ℕ → Bool
at_bottom slo = bit_set 2 slo

abbrev pub lines_are_rows : ℕ → Bool
lines_are_rows slo = bit_set 4 slo

-- "Bit 2 set: .. the picture is PPL wide. Bit 2 clear: .. it is NOL wide"
abbrev pub width : ℕ → ℕ → ℕ → ℕ
width slo p n = cond (lines_are_rows slo) p n

abbrev pub height : ℕ → ℕ → ℕ → ℕ
height slo p n = cond (lines_are_rows slo) n p

-- the column and the row of pixel i of line k, counted from the other end where the bit says so
abbrev pub column_of : ℕ → ℕ → ℕ → ℕ → ℕ → ℕ
column_of slo p n k i = mirror (at_right slo) (width slo p n) (cond (lines_are_rows slo) i k)

abbrev pub row_of : ℕ → ℕ → ℕ → ℕ → ℕ → ℕ
row_of slo p n k i = mirror (at_bottom slo) (height slo p n) (cond (lines_are_rows slo) k i)

-- its place in the picture, row after row; and that of pixel j of the whole sheet, line after line
abbrev pub place_of : ℕ → ℕ → ℕ → ℕ → ℕ → ℕ
place_of slo p n k i = row_of slo p n k i * width slo p n + column_of slo p n k i

abbrev pub place : ℕ → ℕ → ℕ → ℕ → ℕ
place slo p n j = place_of slo p n (j / p) (j % p)

-- the inverse: the line, and the pixel of it, in row y and column x; and the pixel of the whole sheet at place q
abbrev pub line_at : ℕ → ℕ → ℕ → ℕ → ℕ → ℕ
line_at slo p n y x = cond (lines_are_rows slo) (mirror (at_bottom slo) (height slo p n) y) (mirror (at_right slo) (width slo p n) x)

abbrev pub pixel_at : ℕ → ℕ → ℕ → ℕ → ℕ → ℕ
pixel_at slo p n y x = cond (lines_are_rows slo) (mirror (at_right slo) (width slo p n) x) (mirror (at_bottom slo) (height slo p n) y)

abbrev pub source_of : ℕ → ℕ → ℕ → ℕ → ℕ → ℕ
source_of slo p n y x = line_at slo p n y x * p + pixel_at slo p n y x

abbrev pub source : ℕ → ℕ → ℕ → ℕ → ℕ
source slo p n q = source_of slo p n (q / width slo p n) (q % width slo p n)

-- the upright picture of a sheet's pixels, and the sheet's pixels of an upright picture
unfoldable pub turned : ℕ → ℕ → ℕ → List ℕ → List ℕ
turned slo p n pixels = tabulate (n * p) (λ q. get_or pixels (source slo p n q) 0)

unfoldable pub turned_back : ℕ → ℕ → ℕ → List ℕ → List ℕ
turned_back slo p n upright = tabulate (n * p) (λ j. get_or upright (place slo p n j) 0)
