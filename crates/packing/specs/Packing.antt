-- Paper 02, P5: "sixteen pixels to a word, the leftmost in the highest bit, as few words as hold" the row, "spare bits zero".
use Rattle.std.specs.Prelude.{ℕ, zero, suc, ◌+◌, ◌*◌, ◌/◌, ◌%◌, ◌^◌, Bool, false, not, ◌||◌, List, [], ◌∷◌, ◌++◌, drop, eqb}

-- how many words hold p pixels: as few as do
abbrev pub packed_count : ℕ → ℕ
packed_count p = (p + 15) / 16

-- Read: the n lowest bits of a number, the highest of them first.
unfoldable pub bits : ℕ → ℕ → List ℕ
bits zero w = []
bits (suc n) w = w / 2 ^ n % 2 ∷ bits n w

-- the bits of words, one word after the other
unfoldable pub word_bits : List ℕ → List ℕ
word_bits [] = []
word_bits (w ∷ ws) = bits 16 w ++ word_bits ws

-- one of them is set
unfoldable pub any_set : List ℕ → Bool
any_set [] = false
any_set (x ∷ r) = not (eqb x 0) || any_set r

-- Written: the number of n bits whose highest are the pixels of a row. A place past the row's end counts 0.
abbrev pub level : ℕ → ℕ
level x = x % 2

unfoldable pub number : ℕ → List ℕ → ℕ
number zero row = 0
number (suc n) [] = 0
number (suc n) (x ∷ r) = level x * 2 ^ n + number n r

-- the first k words of a row
unfoldable pub packed_words : ℕ → List ℕ → List ℕ
packed_words zero row = []
packed_words (suc k) row = number 16 row ∷ packed_words k (drop 16 row)
