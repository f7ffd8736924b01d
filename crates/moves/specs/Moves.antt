-- A picture w wide and h tall that is filled from as many pixels, whose lines are its rows or, crossed, its columns. Each side may be
-- mirrored: `leftward`, columns are counted from the right; `upward`, rows from the bottom.
use Rattle.std.specs.Prelude.{ℕ, ◌+◌, ◌-◌, ◌*◌, ◌/◌, ◌%◌, Bool, cond, List, ◌++◌, length, get_or, drop, ltb}
use Rattle.moves.specs.Tabulate.{tabulate}

-- place i of n, counted from the other end where `far` holds
unfoldable pub mirror : Bool → ℕ → ℕ → ℕ
mirror far n i = cond far (n - 1 - i) i

-- the pixel that row y and column x are filled from
abbrev pub origin : Bool → Bool → Bool → ℕ → ℕ → ℕ → ℕ → ℕ
origin crossed leftward upward w h y x =
    cond crossed (mirror leftward w x * h + mirror upward h y) (mirror upward h y * w + mirror leftward w x)

unfoldable pub moved : Bool → Bool → Bool → ℕ → ℕ → List ℕ → List ℕ
moved crossed leftward upward w h pixels = tabulate (h * w) (λ q. get_or pixels (origin crossed leftward upward w h (q / w) (q % w)) 0)

-- the buffer that is filled: as it was where either is too short
unfoldable pub moved_after : Bool → Bool → Bool → ℕ → ℕ → List ℕ → List ℕ → List ℕ
moved_after crossed leftward upward w h input output =
    cond (ltb (length input) (h * w)) output
    (cond (ltb (length output) (h * w)) output (moved crossed leftward upward w h input ++ drop (h * w) output))
