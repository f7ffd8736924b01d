-- "Numbers a call is refused with", 16 to 20: fields within their limits. Each limit is a list of its own, over plain numbers, so
-- that every call that has it composes it by name.
use Rattle.std.specs.Prelude.{ℕ, not, List, [], ◌∷◌, ◌++◌, eqb, ltb}
use Rattle.units.specs.Rules.{Rule, rule}
use Rattle.codec.specs.Table.{is_data_type}

abbrev pub type_rules : ℕ → List Rule
type_rules t = rule 16 (not (is_data_type t)) ∷ []

abbrev pub slo_rules : ℕ → List Rule
slo_rules slo = rule 17 (ltb 7 slo) ∷ []

abbrev pub scn_rules : ℕ → List Rule
scn_rules scn = rule 18 (ltb 1 scn) ∷ []

-- the most pixels of a line, and the most lines
abbrev pub most_pixels : ℕ
most_pixels = 65535

abbrev pub most_lines : ℕ
most_lines = 1000000

abbrev pub ppl_rules : ℕ → List Rule
ppl_rules ppl = rule 19 (eqb ppl 0) ∷ rule 19 (ltb most_pixels ppl) ∷ []

abbrev pub nol_rules : ℕ → List Rule
nol_rules nol = rule 20 (eqb nol 0) ∷ rule 20 (ltb most_lines nol) ∷ []

abbrev pub limit_rules : ℕ → ℕ → ℕ → ℕ → ℕ → List Rule
limit_rules t slo scn ppl nol = type_rules t ++ (slo_rules slo ++ (scn_rules scn ++ (ppl_rules ppl ++ nol_rules nol)))
