-- The answer at the first index of a range that is hit, or another where none is. `scan hit answer none i k` goes over
-- the k indices from i on.
use Rattle.std.specs.Prelude.{ℕ, zero, suc, Bool, cond}

unfoldable pub scan : {A : Type 0} → (ℕ → Bool) → (ℕ → A) → A → ℕ → ℕ → A
scan hit answer none i zero = none
scan hit answer none i (suc k) = cond (hit i) (answer i) (scan hit answer none (suc i) k)
