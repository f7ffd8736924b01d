-- Type 1: sixteen pixels to a word (paper 02, P5).
use Rattle.std.specs.Prelude.{ℕ, Bool, not, cond, List, [], ◌∷◌, length, take, drop, eqb, ltb}
use Rattle.units.specs.Counts.{word_bytes}
use Rattle.units.specs.Rules.{Rule, rule}
use Rattle.units.specs.Words.{words, words_to_bytes, word_count}
use Rattle.packing.specs.Packing.{packed_count, word_bits, any_set, packed_words}
use Rattle.codec.specs.Extent.{Extent}
use Rattle.codec.specs.Codec.{Codec, kept, fault}

-- the first p bits are the pixels, those behind them are spare
abbrev pub packed_pixels : List ℕ → ℕ → List ℕ
packed_pixels b p = take p (word_bits (words b))

abbrev pub spare_set : List ℕ → ℕ → Bool
spare_set b p = any_set (drop p (word_bits (words b)))

-- with headers: as few words as hold the row, with no spare bit set
abbrev pub packed_rules : List ℕ → ℕ → List Rule
packed_rules b p = rule 6 (not (eqb (word_count b).0 (packed_count p))) ∷ rule 10 (spare_set b p) ∷ []

-- without: as many words. They are taken with a spare bit set too, so that the chain goes on.
abbrev pub packed_extent : List ℕ → ℕ → Extent
packed_extent r p =
    cond (ltb (word_count r).0 (packed_count p)) (fault 1)
    (kept (cond (spare_set (take (word_bytes (packed_count p)) r) p) 10 0) (word_bytes (packed_count p)))

-- written: the words of the row
abbrev pub packed_body : List ℕ → List ℕ
packed_body row = words_to_bytes (packed_words (packed_count (length row)) row)

abbrev pub packed_codec : Codec
packed_codec =
    record { data_type = 1; rules = packed_rules; pixels = packed_pixels; extent = packed_extent; body = λ scn row. packed_body row; highest = 1 }
