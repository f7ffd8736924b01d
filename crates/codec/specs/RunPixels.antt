-- Type 9: runs of two levels.
use Rattle.std.specs.Prelude.{ℕ, ◌+◌, ◌-◌, ◌%◌, cond, ◌&&◌, List, [], ◌∷◌, ◌++◌, replicate, eqb, ltb}
use Rattle.units.specs.Counts.{word_bytes}
use Rattle.units.specs.Rules.{Rule, rule}
use Rattle.units.specs.Words.{words, words_to_bytes, word_count}
use Rattle.cutting.specs.Pieces.{level_pieces}
use Rattle.codec.specs.Extent.{Extent}
use Rattle.codec.specs.Codec.{Codec, taken, fault}

-- Words, alternately OFF and ON runs. OFF pixels are 0, ON pixels 1. `run_pixels v` starts with a run of v.
unfoldable pub run_pixels : ℕ → List ℕ → List ℕ
run_pixels v [] = []
run_pixels v (n ∷ r) = replicate n v ++ run_pixels (1 - v) r

-- how many pixels the runs hold in all
unfoldable pub run_total : List ℕ → ℕ
run_total [] = 0
run_total (n ∷ r) = n + run_total r

-- with headers: an odd number of words that total p
abbrev pub run_rules : List ℕ → ℕ → List Rule
run_rules b p =
    rule 6 (eqb ((word_count b).0 % 2) 0) ∷
    rule 7 (ltb p (run_total (words b))) ∷
    rule 8 (ltb (run_total (words b)) p) ∷
    []

-- Without: the line ends at the first OFF run whose total is p. `runs_from v left ws used`: a run of level v comes next, `left`
-- pixels are to come, the words from here on are ws, and `used` bytes are taken before them.
unfoldable pub runs_from : ℕ → ℕ → List ℕ → ℕ → Extent
runs_from v left [] used = fault 1
runs_from v left (n ∷ ws) used =
    cond (ltb left n) (fault 7)
    (cond (eqb v 0 && eqb left n) (taken (used + word_bytes 1)) (runs_from (1 - v) (left - n) ws (used + word_bytes 1)))

abbrev pub run_extent : List ℕ → ℕ → Extent
run_extent r p = runs_from 0 p (words r) 0

-- Written: the lengths of the runs of a row, OFF and ON by turns. `level_runs v n row`: a run of level v holds n pixels so far.
-- The last run is OFF: an ON run at the end is followed by an empty one.
unfoldable pub level_runs : ℕ → ℕ → List ℕ → List ℕ
level_runs v n [] = cond (eqb v 0) (n ∷ []) (n ∷ (0 ∷ []))
level_runs v n (x ∷ r) = cond (eqb x v) (level_runs v (n + 1) r) (n ∷ level_runs (1 - v) 1 r)

-- each run cut
unfoldable pub cut_levels : List ℕ → List ℕ
cut_levels [] = []
cut_levels (n ∷ r) = level_pieces n ++ cut_levels r

-- the words of a type 9 body
abbrev pub run_words : List ℕ → List ℕ
run_words row = cut_levels (level_runs 0 0 row)

abbrev pub run_body : List ℕ → List ℕ
run_body row = words_to_bytes (run_words row)

abbrev pub run_codec : Codec
run_codec =
    record {
      data_type = 9;
      rules = run_rules;
      pixels = λ b p. run_pixels 0 (words b);
      extent = run_extent;
      body = λ scn row. run_body row;
      highest = 1;
    }
