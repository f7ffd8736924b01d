-- The two calls: what they are rejected with, and what the buffer that is filled holds then.
use Rattle.std.specs.Prelude.{ℕ, ◌*◌, cond, List, [], ◌∷◌, ◌++◌, eqb, ltb, length, drop}
use Rattle.units.specs.Rules.{Rule, rule, first}
use Rattle.limits.specs.Limits.{slo_rules, ppl_rules, nol_rules}
use Rattle.orient.specs.Orientation.{turned, turned_back}

-- "23 for the buffer read, then 31 when the one filled is shorter than PPL x NOL", for buffers of these lengths
abbrev pub read_rules : ℕ → ℕ → ℕ → List Rule
read_rules p n read = rule 23 (ltb read (n * p)) ∷ []

abbrev pub filled_rules : ℕ → ℕ → ℕ → List Rule
filled_rules p n filled = rule 31 (ltb filled (n * p)) ∷ []

abbrev pub turn_rules : ℕ → ℕ → ℕ → ℕ → ℕ → List Rule
turn_rules slo p n read filled = slo_rules slo ++ (ppl_rules p ++ (nol_rules n ++ (read_rules p n read ++ filled_rules p n filled)))

unfoldable pub turn_rejection : ℕ → ℕ → ℕ → ℕ → ℕ → ℕ
turn_rejection slo p n read filled = first (turn_rules slo p n read filled)

-- a buffer after a call with this number: as it was, or filled as far as the picture goes
abbrev pub filled_after : ℕ → List ℕ → ℕ → List ℕ → List ℕ
filled_after number new size old = cond (eqb number 0) (new ++ drop size old) old

-- the buffer of the upright picture after `turn`, and of the sheet's pixels after `turn_back`
unfoldable pub upright_after : ℕ → ℕ → ℕ → List ℕ → List ℕ → List ℕ
upright_after slo p n pixels upright =
    filled_after (turn_rejection slo p n (length pixels) (length upright)) (turned slo p n pixels) (n * p) upright

unfoldable pub pixels_after : ℕ → ℕ → ℕ → List ℕ → List ℕ → List ℕ
pixels_after slo p n upright pixels =
    filled_after (turn_rejection slo p n (length upright) (length pixels)) (turned_back slo p n upright) (n * p) pixels
