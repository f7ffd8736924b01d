-- Type 10: runs of any value.
use Rattle.std.specs.Prelude.{ℕ, ◌+◌, ◌-◌, ◌%◌, not, cond, List, [], ◌∷◌, ◌++◌, replicate, eqb, ltb}
use Rattle.units.specs.Counts.{word_bytes}
use Rattle.units.specs.Rules.{Rule, rule}
use Rattle.units.specs.Words.{words, words_to_bytes, word_count}
use Rattle.cutting.specs.Pieces.{value_pieces}
use Rattle.codec.specs.Extent.{Extent}
use Rattle.codec.specs.Codec.{Codec, taken, fault}

-- pairs of words, value then count
unfoldable pub pair_pixels : List ℕ → List ℕ
pair_pixels [] = []
pair_pixels (v ∷ []) = []
pair_pixels (v ∷ (n ∷ r)) = replicate n v ++ pair_pixels r

unfoldable pub pair_total : List ℕ → ℕ
pair_total [] = 0
pair_total (v ∷ []) = 0
pair_total (v ∷ (n ∷ r)) = n + pair_total r

-- with headers: an even number of words whose counts total p
abbrev pub pair_rules : List ℕ → ℕ → List Rule
pair_rules b p =
    rule 6 (not (eqb ((word_count b).0 % 2) 0)) ∷
    rule 7 (ltb p (pair_total (words b))) ∷
    rule 8 (ltb (pair_total (words b)) p) ∷
    []

-- without: the line ends at the first pair whose total is p
unfoldable pub pairs_from : ℕ → List ℕ → ℕ → Extent
pairs_from left [] used = fault 1
pairs_from left (v ∷ []) used = fault 1
pairs_from left (v ∷ (n ∷ ws)) used =
    cond (ltb left n) (fault 7)
    (cond (eqb left n) (taken (used + word_bytes 2)) (pairs_from (left - n) ws (used + word_bytes 2)))

abbrev pub pair_extent : List ℕ → ℕ → Extent
pair_extent r p = pairs_from p (words r) 0

-- Written: the runs of equal pixels of a row, the longest there are, each cut. `value_runs v n row`: a run of value v holds n pixels so
-- far.
unfoldable pub value_runs : ℕ → ℕ → List ℕ → List ℕ
value_runs v n [] = value_pieces v n
value_runs v n (x ∷ r) = cond (eqb x v) (value_runs v (n + 1) r) (value_pieces v n ++ value_runs x 1 r)

unfoldable pub pair_words : List ℕ → List ℕ
pair_words [] = []
pair_words (x ∷ r) = value_runs x 1 r

abbrev pub pair_body : List ℕ → List ℕ
pair_body row = words_to_bytes (pair_words row)

abbrev pub pair_codec : Codec
pair_codec =
    record {
      data_type = 10;
      rules = pair_rules;
      pixels = λ b p. pair_pixels (words b);
      extent = pair_extent;
      body = λ scn row. pair_body row;
      highest = 65535;
    }
