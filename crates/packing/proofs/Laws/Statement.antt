-- The bits of words and the words of a row, pixel by pixel.
use Rattle.std.specs.Prelude.{ℕ, zero, suc, ◌+◌, ◌-◌, ◌*◌, ◌/◌, ◌%◌, ◌^◌, ◌≤◌, ◌<◌, ◌≡◌, refl, Bool, true, false, List, [], ◌∷◌, ◌++◌, length, get_or, ltb}
use Rattle.std.proofs.Common.{sym, ◌∙◌, ap, arith, ltb-true, ltb-false, get_or-append-add, pow_pos, shr_lt}
use Rattle.std.proofs.Math.ListN.{get_or-append}
use Rattle.units.specs.Over.{zeros}
use Rattle.units.proofs.Laws.Below.{all_below}
use Rattle.packing.specs.Packing.{packed_count, bits, word_bits}
use Rattle.packing.specs.Statement.{BitsInPlace, bit_at, AllPacked, row_words}
use Rattle.packing.proofs.Laws.Bits.{length-bits}
use Rattle.packing.proofs.Laws.Numbers.{length_packed}
use Rattle.packing.proofs.Laws.RoundTrip.{bits-of-row}

bits_at : (n w i : ℕ) → i < n → get_or (bits n w) i 0 ≡ w / 2 ^ (n - 1 - i) % 2
unfolding bits
bits_at zero w i h = absurd (omega arith)
bits_at (suc n) w zero h = ap (λ (k : ℕ). w / 2 ^ k % 2) (omega arith)
bits_at (suc n) w (suc i) h = bits_at n w i (omega arith) ∙ ap (λ (k : ℕ). w / 2 ^ k % 2) (omega arith)

-- no bit of 0 is set
zero_bit : (k : ℕ) → 0 / 2 ^ k % 2 ≡ 0
zero_bit k =
    let h : 0 / 2 ^ k < 1 = shr_lt {n = 0} 0 k (pow_pos (0 + k)) in
    omega (arith, h)

-- in the first word, and behind it
pub bits_in_place : BitsInPlace
unfolding word_bits
bits_in_place [] i = sym (zero_bit _)
bits_in_place (w ∷ ws) i = go (ltb i 16) refl (bits_in_place ws (i - 16))
  where
    go : (b : Bool) → ltb i 16 ≡ b → get_or (word_bits ws) (i - 16) 0 ≡ bit_at ws (i - 16) → get_or (bits 16 w ++ word_bits ws) i 0 ≡ bit_at (w ∷ ws) i
    go true e rest =
        let l : i < 16 = ltb-true i 16 e in
        let q : i / 16 ≡ 0 = omega arith in
        let r : 16 - 1 - i ≡ 15 - i % 16 = omega arith in
        get_or-append (bits 16 w) (word_bits ws) 0 i (omega (arith, length-bits 16 w))
        ∙ bits_at 16 w i l
        ∙ (λ j. get_or (w ∷ ws) (sym q j) 0 / 2 ^ r j % 2)
    go false e rest =
        let l : 16 ≤ i = ltb-false i 16 e in
        let s : i ≡ length (bits 16 w) + (i - 16) = omega (arith, length-bits 16 w) in
        let q : suc ((i - 16) / 16) ≡ i / 16 = omega arith in
        let r : (i - 16) % 16 ≡ i % 16 = omega arith in
        ap (λ (k : ℕ). get_or (bits 16 w ++ word_bits ws) k 0) s
        ∙ get_or-append-add (bits 16 w) (word_bits ws) (i - 16) 0
        ∙ rest
        ∙ (λ j. get_or (w ∷ ws) (q j) 0 / 2 ^ (15 - r j) % 2)

zero_at : (m i : ℕ) → get_or (zeros m) i 0 ≡ 0
zero_at zero i = refl
zero_at (suc m) zero = refl
zero_at (suc m) (suc i) = zero_at m i

pub all_packed : AllPacked
all_packed row h =
    let n = packed_count (length row) in
    let count : length (row_words row) ≡ n = length_packed n row in
    let m = 16 * n - length row in
    let all = bits-of-row row (all_below 2 row h) in
    record {
      holds = omega (arith, count);
      fewest = λ k l. omega (arith, count);
      pixel =
          λ i l.
          sym (bits_in_place (row_words row) i)
          ∙ ap (λ (x : List ℕ). get_or x i 0) all
          ∙ get_or-append row (zeros m) 0 i l;
      spare =
          λ i l.
          sym (bits_in_place (row_words row) i)
          ∙ ap (λ (x : List ℕ). get_or x i 0) all
          ∙ ap (λ (k : ℕ). get_or (row ++ zeros m) k 0) (omega arith)
          ∙ get_or-append-add row (zeros m) (i - length row) 0
          ∙ zero_at m (i - length row);
    }
