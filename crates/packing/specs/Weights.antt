-- The bits of a number by their weights, so that a reader makes many pixels at once.
use Rattle.std.specs.Prelude.{ℕ, zero, suc, ◌^◌, cond, List, [], ◌∷◌, map, eqb}
use Rattle.std.specs.Int.Bits.{bit_and}

-- the weights of n bits, the highest first
unfoldable pub powers : ℕ → List ℕ
powers zero = []
powers (suc n) = 2 ^ n ∷ powers n

-- the bit of a weight; a weight 0 has none
abbrev pub pick : ℕ → ℕ → ℕ
pick w weight = cond (eqb (bit_and w weight) 0) 0 1

abbrev pub picked : ℕ → List ℕ → List ℕ
picked w weights = map (pick w) weights
