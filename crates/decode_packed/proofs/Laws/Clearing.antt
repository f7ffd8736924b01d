-- Pixels stored as bytes, and what is left of the row is cleared.
use Rattle.std.specs.Prelude.{ℕ, zero, suc, ◌-◌, ◌*◌, ◌%◌, ◌/◌, ◌≤◌, min, ◌≡◌, refl, List, [], ◌∷◌, ◌++◌, length, take, drop}
use Rattle.std.proofs.Common.{sym, ◌∙◌, ap, arith, length-take, length-take-le}
use Rattle.std.proofs.Math.Seq.{take-nil}
use borrow.Rule.Slice.PartMut.{mid_of, put_mid}
use Rattle.units.specs.Counts.{word_bytes}
use Rattle.units.specs.Over.{over, zeros}
use Rattle.units.specs.Words.{words, word_count, words_to_bytes}
use Rattle.units.proofs.Laws.Over.{over_full, over_fits, length_over, take_least}
use Rattle.units.proofs.Laws.Stores.{length-bytes}
use Rattle.units.proofs.Laws.Words.{length-words}
use Rattle.slices.proofs.Laws.Painting.{blank_from, blank_last, blank-over}
use Rattle.packing.specs.Packing.{word_bits}
use Rattle.packing.proofs.Laws.Bits.{length-word_bits}

pub length-pixels : (b : List ℕ) → length (word_bits (words b)) ≡ 16 * (word_count b).0
length-pixels b = length-word_bits (words b) ∙ ap (λ (n : ℕ). 16 * n) (length-words b)

bytes_take : (xs : List ℕ) (n : ℕ) → words_to_bytes (take n xs) ≡ take (word_bytes n) (words_to_bytes xs)
unfolding words_to_bytes
bytes_take xs zero = refl
bytes_take [] (suc n) = sym (take-nil {A = ℕ} (word_bytes (suc n)))
bytes_take (x ∷ xs) (suc n) =
    let e : word_bytes (suc n) ≡ suc (suc (word_bytes n)) = omega arith in
    rw e (ap (λ (r : List ℕ). x % 256 ∷ (x / 256 ∷ r)) (bytes_take xs n))

-- as many bytes as the words fill
module _ (all row part : List ℕ) (p n end : ℕ) (count : n ≡ min (length all) p) (size : end ≡ word_bytes n) (fits : end ≤ length row)
    (put : part ≡ over (words_to_bytes all) (take end row)) where
  abbrev bytes : List ℕ
  bytes = words_to_bytes (take p all)

  abbrev stored : List ℕ
  stored = part ++ drop end row

  part_is : part ≡ bytes
  part_is =
      let l : length (take end row) ≡ word_bytes n = length-take-le end row fits ∙ size in
      put
      ∙ over_full (words_to_bytes all) (take end row) (omega (arith, length-bytes all))
      ∙ ap (λ (m : ℕ). take m (words_to_bytes all)) l
      ∙ sym (bytes_take all n)
      ∙ ap words_to_bytes (take_least all p n count)

  length_is : length bytes ≡ end
  length_is = length-bytes (take p all) ∙ omega (arith, length-take p all)

  stored_is : stored ≡ over bytes row
  stored_is = ap (λ (r : List ℕ). r ++ drop end row) part_is ∙ sym (over_fits bytes row (omega (arith, length_is)) ∙ rw length_is)

  pub cleared : (rest : List ℕ) → rest ≡ zeros (length (mid_of end (length stored - end) stored))
      → put_mid end (length stored - end) stored rest ≡ over bytes (zeros (length row))
  cleared rest e =
      blank_last stored rest end (omega (arith, ap length stored_is ∙ length_over bytes row)) e
      ∙ ap (blank_from end) stored_is
      ∙ blank-over bytes row end length_is fits
