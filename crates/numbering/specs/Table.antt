-- The line numbers round the rolls, wanted and written: one table under one statement.
use Rattle.std.specs.Prelude.{ℕ, ◌-◌, ◌≡◌, List, [], ◌∷◌, map}
use Rattle.numbering.specs.Numbering.{wanted_number, written_number}

-- a line, counted from 1 as the paper does; its number where line 65,536 has 1, where it has 0, and where it has neither; and the number
-- that is written
pub record Case : Type 0 where
  pub line : ℕ
  pub to_one : ℕ
  pub to_zero : ℕ
  pub neither : ℕ
  pub written : ℕ

unfoldable pub of : ℕ → ℕ → ℕ → ℕ → ℕ → Case
of line to_one to_zero neither written =
    record { line = line; to_one = to_one; to_zero = to_zero; neither = neither; written = written }

-- by the definitions
unfoldable pub computed : Case → Case
computed c =
    let k = c.line - 1 in
    of c.line (wanted_number 1 k) (wanted_number 0 k) (wanted_number 2 k) (written_number k)

unfoldable pub cases : List Case
cases =
    of 1 1 1 1 1 ∷
    of 65535 65535 65535 65535 65535 ∷
    of 65536 1 0 0 0 ∷
    of 65537 2 1 1 1 ∷
    of 131070 65535 65534 65534 65534 ∷
    of 131071 1 65535 65535 65535 ∷
    of 131072 2 0 0 0 ∷
    of 1000000 16975 16960 16960 16960 ∷
    []

-- every case is as the definition gives it. `all_numbered` proves it.
abbrev pub AllNumbered : Type 0
AllNumbered = map computed cases ≡ cases
