-- The number that pixels make, its bits, and the words of a row.
use Rattle.std.specs.Prelude.{ℕ, zero, suc, ◌+◌, ◌-◌, ◌*◌, ◌/◌, ◌%◌, ◌^◌, ◌≤◌, ◌<◌, ◌≡◌, refl, List, [], ◌∷◌, ◌++◌, length, take, drop, replicate}
use Rattle.std.proofs.Common.{sym, ◌∙◌, ap, ap₂, add-mul, mul_assoc, add_assoc, zero-add, suc-add, arith, length-drop, take-append-drop, drop_of_length-le, drop_at, take_all, pow_pos, pow-add}
use Rattle.std.proofs.Math.Nat.{pow-zero}
use Rattle.std.proofs.Math.Pow.{high}
use Rattle.units.proofs.Laws.Below.{AllBelow, all_drop}
use Rattle.packing.specs.Packing.{bits, word_bits, number, packed_words, packed_count}
use Rattle.packing.proofs.Laws.Bits.{pow_step, mod_step, bits_above, length-bits}

number-nil : (n : ℕ) → number n [] ≡ 0
unfolding number
number-nil zero = refl
number-nil (suc n) = refl

low_pixel : (x m : ℕ) → x % 2 * m ≤ m
low_pixel x m = go (x % 2) (omega arith)
  where
    go : (b : ℕ) → b < 2 → b * m ≤ m
    go zero h = omega arith
    go (suc zero) h = omega arith
    go (suc (suc b)) h = absurd (omega arith)

pub number_lt : (n : ℕ) (row : List ℕ) → number n row < 2 ^ n
unfolding number
number_lt zero row = omega (arith, pow-zero 2)
number_lt (suc n) [] = pow_pos (suc n)
number_lt (suc n) (x ∷ r) = omega (arith, number_lt n r, low_pixel x (2 ^ n), pow_step n)

-- the first m pixels and those behind them
pub number_split : (m n : ℕ) (row : List ℕ) → number (m + n) row ≡ number m row * 2 ^ n + number n (drop m row)
unfolding number
number_split zero n row = rw (zero-add n) (omega arith)
number_split (suc m) n [] = rw (suc-add m n, number-nil n) (omega arith)
number_split (suc m) n (x ∷ r) =
    rw (suc-add m n, number_split m n r, pow-add 2 m n, add-mul (x % 2 * 2 ^ m) (number m r) (2 ^ n), mul_assoc (x % 2) (2 ^ m) (2 ^ n))
    (sym (add_assoc (x % 2 * (2 ^ m * 2 ^ n)) (number m r * 2 ^ n) (number n (drop m r))))

-- pixels past the first n do not count
pub number-take : (n : ℕ) (row : List ℕ) → number n (take n row) ≡ number n row
unfolding number
number-take zero row = refl
number-take (suc n) [] = refl
number-take (suc n) (x ∷ r) = ap (λ (k : ℕ). x % 2 * 2 ^ n + k) (number-take n r)

-- nor do zeros behind a row
number-zeros : (n m : ℕ) → number n (replicate m 0) ≡ 0
unfolding number
number-zeros zero m = refl
number-zeros (suc n) zero = refl
number-zeros (suc n) (suc m) = omega (arith, number-zeros n m)

number_pad : (n m : ℕ) (row : List ℕ) → number n (row ++ replicate m 0) ≡ number n row
unfolding number
number_pad zero m row = refl
number_pad (suc n) m [] = number-zeros (suc n) m
number_pad (suc n) m (x ∷ r) = ap (λ (k : ℕ). x % 2 * 2 ^ n + k) (number_pad n m r)

drop-zeros : (i m : ℕ) → drop {A = ℕ} i (replicate m 0) ≡ replicate (m - i) 0
drop-zeros zero m = let e : m - 0 ≡ m = omega arith in rw e
drop-zeros (suc i) zero = let e : 0 - suc i ≡ 0 = omega arith in rw e
drop-zeros (suc i) (suc m) = let e : suc m - suc i ≡ m - i = omega arith in rw e (drop-zeros i m)

drop_pad : (i m : ℕ) (row : List ℕ) → drop i (row ++ replicate m 0) ≡ drop i row ++ replicate (m - (i - length row)) 0
drop_pad zero m row = let e : m - (0 - length row) ≡ m = omega arith in rw e
drop_pad (suc i) m [] = let e : suc i - 0 ≡ suc i = omega arith in rw e (drop-zeros (suc i) m)
drop_pad (suc i) m (x ∷ r) = let e : suc i - suc (length r) ≡ i - length r = omega arith in rw e (drop_pad i m r)

pub packed_pad : (k m : ℕ) (row : List ℕ) → packed_words k (row ++ replicate m 0) ≡ packed_words k row
unfolding packed_words
packed_pad zero m row = refl
packed_pad (suc k) m row =
    rw (number_pad 16 m row, drop_pad 16 m row)
    (ap (λ (r : List ℕ). number 16 row ∷ r) (packed_pad k (m - (16 - length row)) (drop 16 row)))

-- bits to a number and back
number-bits : (n w : ℕ) (r : List ℕ) → number n (bits n w ++ r) ≡ w % 2 ^ n
unfolding number bits
number-bits zero w r = omega (arith, pow-zero 2)
number-bits (suc n) w r =
    let e : w / 2 ^ n % 2 % 2 ≡ w / 2 ^ n % 2 = omega arith in
    rw (e, number-bits n w r) (sym (mod_step w n))

pub bits-number : (n : ℕ) (row : List ℕ) → AllBelow 2 row → n ≤ length row → bits n (number n row) ≡ take n row
unfolding number bits
bits-number zero row b h = refl
bits-number (suc n) [] b h = absurd (omega arith)
bits-number (suc n) (x ∷ r) b h =
    let l : x < 2 = b.0 in
    let e : (x % 2 * 2 ^ n + number n r) / 2 ^ n ≡ x % 2 = high (x % 2) n (number_lt n r) in
    let d : x % 2 % 2 ≡ x = omega arith in
    ap₂ (λ (y : ℕ) (ys : List ℕ). y ∷ ys) (ap (λ (y : ℕ). y % 2) e ∙ d) (bits_above n (x % 2) (number n r) ∙ bits-number n r b.1 (omega arith))

-- whole words of pixels, to words and back
pub bits_packed : (k : ℕ) (row : List ℕ) → AllBelow 2 row → length row ≡ 16 * k → word_bits (packed_words k row) ≡ row
unfolding packed_words word_bits
bits_packed zero [] b h = refl
bits_packed zero (x ∷ r) b h = absurd (omega arith)
bits_packed (suc k) row b h =
    let l : 16 ≤ length row = omega arith in
    let d : length (drop 16 row) ≡ 16 * k = omega (arith, length-drop 16 row) in
    rw (bits-number 16 row b l, bits_packed k (drop 16 row) (all_drop 2 16 row b) d) (take-append-drop 16 row)

pub words_packed : (ws : List ℕ) → AllBelow 65536 ws → packed_words (length ws) (word_bits ws) ≡ ws
unfolding packed_words word_bits
words_packed [] b = refl
words_packed (w ∷ ws) b =
    let l : w < 65536 = b.0 in
    let e : number 16 (bits 16 w ++ word_bits ws) ≡ w = number-bits 16 w (word_bits ws) ∙ omega arith in
    let d : drop 16 (bits 16 w ++ word_bits ws) ≡ word_bits ws = drop_at (bits 16 w) (word_bits ws) 16 (length-bits 16 w) in
    rw (e, d) (ap (λ (r : List ℕ). w ∷ r) (words_packed ws b.1))

-- one word of a row and the others
pub packed_step : (row : List ℕ) → 0 < length row
    → packed_words (packed_count (length row)) row ≡ number 16 row ∷ packed_words (packed_count (length (drop 16 row))) (drop 16 row)
unfolding packed_words
packed_step row h =
    let e : (length row + 15) / 16 ≡ suc ((length (drop 16 row) + 15) / 16) = omega (arith, length-drop 16 row) in
    rw e

-- each word is a number of sixteen bits
pub packed_below : (k : ℕ) (row : List ℕ) → AllBelow 65536 (packed_words k row)
unfolding packed_words
packed_below zero row = tt
packed_below (suc k) row = (number_lt 16 row, packed_below k (drop 16 row))

pub length_packed : (k : ℕ) (row : List ℕ) → length (packed_words k row) ≡ k
unfolding packed_words
length_packed zero row = refl
length_packed (suc k) row = ap suc (length_packed k (drop 16 row))

-- a part of a row from `at` on: past the end, to the end, and of n pixels
module _ (row : List ℕ) (n at : ℕ) where
  pub number_past : length row ≤ at → number n (drop at row) ≡ 0
  number_past h = rw (drop_of_length-le row {i = at} h) (number-nil n)

  pub number-rest : number n (take (length row - at) (drop at row)) ≡ number n (drop at row)
  number-rest = ap (λ (r : List ℕ). number n r) (take_all (length row - at) (drop at row) (omega (arith, length-drop at row)))

  pub number_part : (end : ℕ) → end ≡ at + n → number n (take (end - at) (drop at row)) ≡ number n (drop at row)
  number_part end h = let e : end - at ≡ n = omega arith in rw e (number-take n (drop at row))
