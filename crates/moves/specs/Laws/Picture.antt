-- A picture by its rows and columns, as the loops fill it, and the moves that are such pictures.
use Rattle.std.specs.Prelude.{ℕ, ◌+◌, ◌*◌, ◌/◌, ◌%◌, Bool, List, get_or}
use Rattle.moves.specs.Tabulate.{tabulate}
use Rattle.moves.specs.Moves.{mirror}

-- the pixel for row y and column x
abbrev pub row_pixel : Bool → Bool → ℕ → ℕ → List ℕ → ℕ → ℕ → ℕ
row_pixel leftward upward w h s y x = get_or s (mirror upward h y * w + mirror leftward w x) 0

abbrev pub column_pixel : Bool → Bool → ℕ → ℕ → List ℕ → ℕ → ℕ → ℕ
column_pixel leftward upward w h s y x = get_or s (mirror leftward w x * h + mirror upward h y) 0

-- the picture with these pixels
unfoldable pub picture : ℕ → ℕ → (ℕ → ℕ → ℕ) → List ℕ
picture w h pix = tabulate (h * w) (λ q. pix (q / w) (q % w))

-- a line as a row
unfoldable pub line_moved : Bool → ℕ → List ℕ → List ℕ
line_moved leftward w line = tabulate w (λ x. get_or line (mirror leftward w x) 0)
