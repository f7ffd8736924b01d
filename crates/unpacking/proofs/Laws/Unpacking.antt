-- Words put into a row, one after the other.
use Rattle.std.specs.Prelude.{ℕ, ◌+◌, ◌-◌, ◌*◌, ◌≤◌, ◌<◌, min, ◌≡◌, refl, Bool, true, false, List, ◌++◌, length, take, drop, ltb}
use Rattle.std.proofs.Common.{sym, ◌∙◌, ap, arith, take_all, take_at, ltb-true, ltb-false}
use Rattle.std.proofs.lemmas.List.Edits.{sets}
use Rattle.std.proofs.lemmas.List.{take-append-le}
use borrow.Rule.Slice.PartMut.{mid_of, put_mid, mid_len}
use Rattle.units.specs.LittleEndian.{u16_at}
use Rattle.units.specs.Over.{over}
use Rattle.units.specs.Words.{words, word_count, words_to_bytes}
use Rattle.units.proofs.Laws.Over.{over_full}
use Rattle.units.proofs.Laws.Parts.{put_tail}
use Rattle.units.proofs.Laws.Stores.{length-bytes}
use Rattle.units.proofs.Laws.Words.{length-words}
use Rattle.slices.proofs.Laws.Painting.{part_stored, run_put}
use Rattle.packing.specs.Packing.{bits, word_bits}
use Rattle.packing.proofs.Laws.Bits.{length-bits, length-word_bits}

-- Two parts that fill a row, one behind the other.
pub both_put : (row first second : List ℕ) (n : ℕ) → length first ≡ n
    → put_mid n (length (first ++ drop n row) - n) (first ++ drop n row) second ≡ first ++ second
both_put row first second n l = put_tail n (first ++ drop n row) second ∙ ap (λ (r : List ℕ). r ++ second) (take_at first (drop n row) n l)

-- A word's pixels are put where they belong, and then those behind it.
pub word_next : (row rest part next : List ℕ) (at end : ℕ) → rest ≡ part ++ next → end ≡ at + length part → end ≤ length row
    → sets (put_mid at (end - at) row part) end next ≡ sets row at rest
word_next row rest part next at end e to fits =
    let t : part ≡ take (end - at) part = sym (take_all (end - at) part (omega arith)) in
    let s = part_stored row part part at end (omega arith) (omega arith) t in
    rw e (sym (run_put row at part next s (omega arith)))

-- The last word's are put over what is left of the row, where the body has any.
module _ (row rest new next part : List ℕ) (at end : ℕ) (within : at ≤ length row) (to : end ≡ min (at + length rest) (length row))
    (few : end - at ≤ length new) (some : at < end → rest ≡ new ++ next) where
  first_of : take (end - at) new ≡ take (end - at) rest
  first_of = go (ltb at end) refl
    where
      go : (b : Bool) → ltb at end ≡ b → take (end - at) new ≡ take (end - at) rest
      go true t = rw (some (ltb-true at end t)) (sym (take-append-le (end - at) new next few))
      go false t = let z : end - at ≡ 0 = omega (arith, ltb-false at end t) in rw z

  pub word_last : part ≡ over new (mid_of at (end - at) row) → put_mid at (end - at) row part ≡ sets row at rest
  word_last put =
      let old = mid_of at (end - at) row in
      let l : length old ≡ end - at = mid_len at end row (omega arith) in
      part_stored row rest part at end within to (put ∙ over_full new old (omega arith) ∙ ap (λ (n : ℕ). take n new) l ∙ first_of)

-- as many bytes as a word has, and as many pixels and bytes as the words have
pub length_word : (b : List ℕ) (i : ℕ) → length (words_to_bytes (bits 16 (u16_at b i))) ≡ 32
length_word b i = length-bytes (bits 16 (u16_at b i)) ∙ omega (arith, length-bits 16 (u16_at b i))

pub length-pixels : (b : List ℕ) → length (word_bits (words b)) ≡ 16 * (word_count b).0
length-pixels b = length-word_bits (words b) ∙ ap (λ (n : ℕ). 16 * n) (length-words b)

pub length_pixel_bytes : (b : List ℕ) → length (words_to_bytes (word_bits (words b))) ≡ 32 * (word_count b).0
length_pixel_bytes b = length-bytes (word_bits (words b)) ∙ omega (arith, length-pixels b)
