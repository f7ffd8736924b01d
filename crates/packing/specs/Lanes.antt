-- Four numbers of 16 bits in one of 64, so that a writer takes four pixels at once.
use Rattle.std.specs.Prelude.{ℕ, ◌+◌, ◌*◌, List, get_or}
use Rattle.packing.specs.Packing.{level}

abbrev pub lanes : ℕ → ℕ → ℕ → ℕ → ℕ
lanes a b c d = a + 65536 * b + 4294967296 * (c + 65536 * d)

-- the level of pixel i of a row: 0 past its end
abbrev pub level_at : List ℕ → ℕ → ℕ
level_at row i = level (get_or row i 0)

-- those of four pixels
abbrev pub four_levels : List ℕ → ℕ → ℕ
four_levels row i = lanes (level_at row i) (level_at row (i + 1)) (level_at row (i + 2)) (level_at row (i + 3))
