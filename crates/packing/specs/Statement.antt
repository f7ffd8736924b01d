-- Paper 02, P5: "sixteen pixels to a word, the leftmost in the highest bit, as few words as hold" the row, "spare bits zero", pixel by pixel.
use Rattle.std.specs.Prelude.{ℕ, ◌-◌, ◌*◌, ◌/◌, ◌%◌, ◌^◌, ◌≤◌, ◌<◌, ◌≡◌, List, length, get_or}
use Rattle.packing.specs.Packing.{packed_count, word_bits, packed_words}

-- bit i of words, counted from the highest bit of the first on; 0 past the last
abbrev pub bit_at : List ℕ → ℕ → ℕ
bit_at ws i = get_or ws (i / 16) 0 / 2 ^ (15 - i % 16) % 2

-- Read: the bits of words are these. `bits_in_place` proves it.
abbrev pub BitsInPlace : Type 0
BitsInPlace = (ws : List ℕ) (i : ℕ) → get_or (word_bits ws) i 0 ≡ bit_at ws i

-- the words of a row
abbrev pub row_words : List ℕ → List ℕ
row_words row = packed_words (packed_count (length row)) row

-- Written: they hold the row and no fewer words do; each pixel is its bit, and every bit behind the row is 0.
pub record Packed (row : List ℕ) : Type 0 where
  pub holds : length row ≤ 16 * length (row_words row)
  pub fewest : (k : ℕ) → length row ≤ 16 * k → length (row_words row) ≤ k
  pub pixel : (i : ℕ) → i < length row → bit_at (row_words row) i ≡ get_or row i 0
  pub spare : (i : ℕ) → length row ≤ i → bit_at (row_words row) i ≡ 0

-- for every row of 0 and 1. `all_packed` proves it.
abbrev pub AllPacked : Type 0
AllPacked = (row : List ℕ) → ((i : ℕ) → get_or row i 0 < 2) → Packed row
