-- How many pixels at the start of a row have the value v.
use Rattle.std.specs.Prelude.{ℕ, suc, cond, List, [], ◌∷◌, eqb}

unfoldable pub leading : ℕ → List ℕ → ℕ
leading v [] = 0
leading v (x ∷ r) = cond (eqb x v) (suc (leading v r)) 0
