-- The words of a row, stored as bytes one after the other.
use Rattle.std.specs.Prelude.{ℕ, ◌+◌, ◌≤◌, ◌<◌, ◌≡◌, List, length, drop}
use Rattle.std.proofs.Common.{◌∙◌, ap, arith, length-drop, drop_of_length-le, drop-drop}
use Rattle.std.proofs.lemmas.List.Edits.{sets}
use Rattle.units.specs.Counts.{word_bytes}
use Rattle.units.specs.Words.{two_bytes, words_to_bytes}
use Rattle.units.proofs.Laws.Stores.{sets_word, length-bytes}
use Rattle.packing.specs.Packing.{number, packed_words, packed_count}
use Rattle.packing.proofs.Laws.Numbers.{packed_step, length_packed}

-- the bytes of the pixels from `at` on
abbrev pub body_from : List ℕ → ℕ → List ℕ
body_from row at = words_to_bytes (packed_words (packed_count (length (drop at row))) (drop at row))

pub length-body : (row : List ℕ) → length (body_from row 0) ≡ word_bytes (packed_count (length row))
length-body row = length-bytes (packed_words (packed_count (length row)) row) ∙ ap word_bytes (length_packed (packed_count (length row)) row)

-- A loop that stores them: the next word, then the others, or none is left.
module _ (row out : List ℕ) (at to : ℕ) where
  pub body_next : at < length row → sets out to (body_from row at) ≡ sets (sets out to (two_bytes (number 16 (drop at row)))) (to + 2) (body_from row (at + 16))
  body_next h =
      let r = drop at row in
      let d : drop 16 r ≡ drop (at + 16) row = drop-drop 16 at row in
      rw (packed_step r (omega (arith, length-drop at row)), d)
      (sets_word out to (number 16 r) (packed_words (packed_count (length (drop (at + 16) row))) (drop (at + 16) row)))

  pub body_end : length row ≤ at → sets out to (body_from row at) ≡ out
  unfolding packed_words words_to_bytes
  body_end h = rw (drop_of_length-le row {i = at} h)
