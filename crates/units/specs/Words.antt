-- The whole words of a list of bytes, low byte first, and words as bytes. A last odd byte belongs to no word.
use Rattle.std.specs.Prelude.{ℕ, ◌+◌, ◌*◌, ◌/◌, ◌%◌, cond, List, [], ◌∷◌, length, ltb}
use Rattle.units.specs.declared.Words.{Words}
use Rattle.units.specs.Counts.{words_of_bytes, bytes_in, word_bytes}

unfoldable pub words : List ℕ → List ℕ
words [] = []
words (a ∷ []) = []
words (a ∷ (b ∷ r)) = (a + 256 * b) ∷ words r

-- a word of 16 bits as its two bytes, and words one after the other
abbrev pub two_bytes : ℕ → List ℕ
two_bytes w = w % 256 ∷ (w / 256 ∷ [])

unfoldable pub words_to_bytes : List ℕ → List ℕ
words_to_bytes [] = []
words_to_bytes (w ∷ r) = w % 256 ∷ (w / 256 ∷ words_to_bytes r)

abbrev pub word_count : List ℕ → Words
word_count s = words_of_bytes (bytes_in s)

-- where word i starts, or the end where there are fewer words
abbrev pub word_start : List ℕ → ℕ → ℕ
word_start s i = cond (ltb (word_count s).0 i) (length s) (word_bytes i)
