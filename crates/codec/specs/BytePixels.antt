-- Type 2: bytes.
use Rattle.std.specs.Prelude.{ℕ, ◌+◌, ◌%◌, not, cond, ◌&&◌, List, [], ◌∷◌, ◌++◌, length, take, eqb, ltb}
use Rattle.units.specs.LittleEndian.{low_bytes}
use Rattle.units.specs.Rules.{Rule, rule}
use Rattle.codec.specs.Extent.{Extent}
use Rattle.codec.specs.Codec.{Codec, taken, fault}

-- with headers: p bytes, and one spare byte where p is odd (house rule)
abbrev pub byte_rules : List ℕ → ℕ → List Rule
byte_rules b p = rule 6 (not (eqb (length b) (p + p % 2))) ∷ []

abbrev pub byte_pixels : List ℕ → ℕ → List ℕ
byte_pixels b p = take p b

-- without: p bytes, with no spare byte
abbrev pub byte_extent : List ℕ → ℕ → Extent
byte_extent r p = cond (ltb (length r) p) (fault 1) (taken p)

-- written: the low byte of each pixel, and with headers a spare byte 0 after an odd number of them
unfoldable pub byte_body : ℕ → List ℕ → List ℕ
byte_body scn row = cond (eqb scn 1 && eqb (length row % 2) 1) (low_bytes row ++ (0 ∷ [])) (low_bytes row)

abbrev pub byte_codec : Codec
byte_codec = record { data_type = 2; rules = byte_rules; pixels = byte_pixels; extent = byte_extent; body = byte_body; highest = 255 }
