-- A table of numbered tests in order, and the number of the first test that holds: 0 where none does.
-- Tables of rejections and of marks are such lists.
use Rattle.std.specs.Prelude.{ℕ, Bool, cond, List, [], ◌∷◌}

pub record Rule : Type 0 where
  pub number : ℕ
  pub test : Bool

abbrev pub rule : ℕ → Bool → Rule
rule n t = record { number = n; test = t }

abbrev pub first : List Rule → ℕ
first [] = 0
first (r ∷ rs) = cond r.test r.number (first rs)
