-- One table of data types: a codec each. A data type is read and written exactly where the table has it.
use Rattle.std.specs.Prelude.{ℕ, Bool, true, false, cond, ◌||◌, List, [], ◌∷◌, eqb}
use Rattle.units.specs.Rules.{Rule, rule}
use Rattle.codec.specs.Extent.{Extent}
use Rattle.codec.specs.Codec.{Codec, fault}
use Rattle.codec.specs.PackedPixels.{packed_codec}
use Rattle.codec.specs.BytePixels.{byte_codec}
use Rattle.codec.specs.WordPixels.{word_codec}
use Rattle.codec.specs.RunPixels.{run_codec}
use Rattle.codec.specs.PairPixels.{pair_codec}

abbrev pub codecs : List Codec
codecs = packed_codec ∷ (byte_codec ∷ (word_codec ∷ (run_codec ∷ (pair_codec ∷ []))))

-- Of any other data type nothing is read or written, and its scanlines have the number of its rejection: no call that is not
-- rejected comes to it.
abbrev pub no_codec : Codec
no_codec =
    record {
      data_type = 0;
      rules = λ b p. rule 16 true ∷ [];
      pixels = λ b p. [];
      extent = λ r p. fault 16;
      body = λ scn row. [];
      highest = 0;
    }

abbrev pub find : List Codec → ℕ → Codec
find [] t = no_codec
find (c ∷ cs) t = cond (eqb t c.data_type) c (find cs t)

abbrev pub has : List Codec → ℕ → Bool
has [] t = false
has (c ∷ cs) t = eqb t c.data_type || has cs t

unfoldable pub codec_of : ℕ → Codec
codec_of t = find codecs t

unfoldable pub is_data_type : ℕ → Bool
is_data_type t = has codecs t

-- by data type
abbrev pub body_rules : ℕ → List ℕ → ℕ → List Rule
body_rules t = (codec_of t).rules

abbrev pub body_pixels : ℕ → List ℕ → ℕ → List ℕ
body_pixels t = (codec_of t).pixels

abbrev pub body_extent : ℕ → List ℕ → ℕ → Extent
body_extent t = (codec_of t).extent

abbrev pub body_bytes : ℕ → ℕ → List ℕ → List ℕ
body_bytes t = (codec_of t).body
