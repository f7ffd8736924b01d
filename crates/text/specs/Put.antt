-- Text put into a buffer at a position.
use Rattle.std.specs.Prelude.{ℕ, ◌+◌, ◌-◌, ◌≡◌, Bool, cond, ◌||◌, List, length, ltb}
use Rattle.std.proofs.Math.Seq.{paste}
use Rattle.io.specs.Digits.{last_digits, IsDigitCount}

-- the text does not fit
abbrev pub too_long : List ℕ → ℕ → List ℕ → Bool
too_long out at text = ltb (length out) at || ltb (length out - at) (length text)

abbrev pub put_at : List ℕ → ℕ → List ℕ → List ℕ
put_at out at text = cond (too_long out at text) out (paste out at text (length text))

abbrev pub next_at : List ℕ → ℕ → List ℕ → ℕ
next_at out at text = cond (too_long out at text) at (at + length text)

-- the decimal digits of n were put: k of them, the fewest that hold n
pub record DecimalPut (out : List ℕ) (at n next : ℕ) (out' : List ℕ) : Type 0 where
  pub k : ℕ
  pub fewest : IsDigitCount 10 1 n k
  pub next_is : next ≡ next_at out at (last_digits 10 k n)
  pub out_is : out' ≡ put_at out at (last_digits 10 k n)
