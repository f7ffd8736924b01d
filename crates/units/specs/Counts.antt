-- "The guide counts in blocks of 512 bytes, words of 16 bits and single bytes": the conversions between counts, each stated
-- once, in code and in definitions. No other crate multiplies or divides by 2, 256 or 512 to convert.
use Rattle.std.specs.Prelude.{ℕ, ◌*◌, ◌/◌, min, List, length}
use Rattle.units.specs.declared.Blocks.{Blocks}
use Rattle.units.specs.declared.Words.{Words}
use Rattle.units.specs.declared.Bytes.{Bytes}

abbrev pub n_blocks : ℕ → Blocks
n_blocks n = record { 0 = n }

abbrev pub n_words : ℕ → Words
n_words n = record { 0 = n }

abbrev pub n_bytes : ℕ → Bytes
n_bytes n = record { 0 = n }

-- up: exact
abbrev pub words_of_blocks : Blocks → Words
words_of_blocks n = n_words (256 * n.0)

abbrev pub bytes_of_blocks : Blocks → Bytes
bytes_of_blocks n = n_bytes (512 * n.0)

abbrev pub bytes_of_words : Words → Bytes
bytes_of_words n = n_bytes (2 * n.0)

-- down: whole words and whole blocks. The rest, an odd last byte or the words after the last whole block, is dropped.
abbrev pub words_of_bytes : Bytes → Words
words_of_bytes n = n_words (n.0 / 2)

abbrev pub blocks_of_words : Words → Blocks
blocks_of_words n = n_blocks (n.0 / 256)

-- A count is held in a number of 16 bits (blocks) or of 64. One that is larger is held as the largest: no file has one.
abbrev pub held_blocks : Blocks → Blocks
held_blocks n = n_blocks (min n.0 65535)

abbrev pub held_bytes : Bytes → Bytes
held_bytes n = n_bytes (min n.0 18446744073709551615)

-- the bytes of a list, and of n words
abbrev pub bytes_in : List ℕ → Bytes
bytes_in s = n_bytes (length s)

abbrev pub word_bytes : ℕ → ℕ
word_bytes n = (bytes_of_words (n_words n)).0
