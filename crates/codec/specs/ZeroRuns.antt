-- "Type 9 has no other zero runs but a first or last OFF run where the line needs it": what the words of a body say of zero runs.
use Rattle.std.specs.Prelude.{ℕ, ◌+◌, ◌-◌, ◌≤◌, ◌<◌, ◌≡◌, List, length, get_or}
use Rattle.codec.specs.RunPixels.{run_words}

-- of a row and the words of its body
pub record ZeroRuns (row words : List ℕ) : Type 0 where
  -- A zero run that is neither the first word nor the last stands between two pieces of one run: one of 32,767 pixels, and one of
  -- more pixels of the same level.
  pub between : (j : ℕ) → 0 < j → j + 1 < length words → get_or words j 0 ≡ 0 → (get_or words (j - 1) 0 ≡ 32767) × (0 < get_or words (j + 1) 0)
  -- the first word is an empty OFF run only where the line starts ON, and the last one only where it ends ON
  pub first_on : get_or words 0 0 ≡ 0 → get_or row 0 0 ≡ 1
  pub last_on : get_or words (length words - 1) 0 ≡ 0 → get_or row (length row - 1) 0 ≡ 1
  -- "A run above 32,767 is cut"
  pub most : (j : ℕ) → get_or words j 0 ≤ 32767

-- of every row of pixels 0 and 1. `zero_runs` proves it.
abbrev pub AllZeroRuns : Type 0
AllZeroRuns = (row : List ℕ) → 0 < length row → ((k : ℕ) → k < length row → get_or row k 0 ≤ 1) → ZeroRuns row (run_words row)
