-- Paper 02, P5: "the move gives a file's refusals to 22, then 30 for a type other than 1 or 9, 41 for a refused line, 42 for an offset
-- not 0, then 27, 10, 28". Those after 22.
use Rattle.std.specs.Prelude.{ℕ, Bool, not, ◌||◌, List, [], ◌∷◌, eqb}
use Rattle.units.specs.Rules.{Rule, rule}
use Rattle.encode_answer.specs.Sizes.{size_rules}

-- a data type other than 1 and 9
abbrev pub unmoved_rules : ℕ → List Rule
unmoved_rules t = rule 30 (not (eqb t 1 || eqb t 9)) ∷ []

-- By what is found in the scanlines: one is refused, one starts partway, a new body is too long for a scanline header to count. For a new
-- file of `size` bytes and an output of `room`.
abbrev pub found_rules : ℕ → Bool → Bool → Bool → ℕ → ℕ → List Rule
found_rules scn refused partway long size room = rule 41 refused ∷ rule 42 partway ∷ size_rules scn long size room
