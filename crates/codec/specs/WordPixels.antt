-- Type 3: words.
use Rattle.std.specs.Prelude.{ℕ, not, cond, List, [], ◌∷◌, take, eqb, ltb}
use Rattle.units.specs.Counts.{word_bytes}
use Rattle.units.specs.Rules.{Rule, rule}
use Rattle.units.specs.Words.{words, words_to_bytes, word_count}
use Rattle.codec.specs.Extent.{Extent}
use Rattle.codec.specs.Codec.{Codec, taken, fault}

-- with headers: p words
abbrev pub word_rules : List ℕ → ℕ → List Rule
word_rules b p = rule 6 (not (eqb (word_count b).0 p)) ∷ []

abbrev pub word_pixels : List ℕ → ℕ → List ℕ
word_pixels b p = take p (words b)

-- without: p words
abbrev pub word_extent : List ℕ → ℕ → Extent
word_extent r p = cond (ltb (word_count r).0 p) (fault 1) (taken (word_bytes p))

-- written: each pixel
abbrev pub word_body : List ℕ → List ℕ
word_body row = words_to_bytes row

abbrev pub word_codec : Codec
word_codec =
    record { data_type = 3; rules = word_rules; pixels = word_pixels; extent = word_extent; body = λ scn row. word_body row; highest = 65535 }
