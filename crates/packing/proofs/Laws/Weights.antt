-- A word's bits by the weights of its two bytes.
use Rattle.std.specs.Prelude.{ℕ, zero, suc, ◌+◌, ◌-◌, ◌*◌, ◌/◌, ◌%◌, ◌^◌, ◌≤◌, ◌<◌, min, ◌≡◌, refl, Bool, true, false, cond, length, get_or, set, take, drop, eqb, ltb}
use Rattle.std.proofs.Common.{sym, ◌∙◌, ap, zero-add, suc-add, add_comm, add-one, ne_eqb, take_all, eqb-true, ltb-true, ltb-false, pow_pos, shr-shr}
use Rattle.std.proofs.Math.Path.{ap₂}
use mathlib.Core.List.{List, ◌∷◌, ◌++◌}
use native.Mathlib.Omega.{arith}
use Rattle.std.proofs.lemmas.Bool.{eqb-false}
use Rattle.std.proofs.lemmas.List.{length-map}
use Rattle.std.proofs.Math.ListN.{get_or-map}
use Rattle.std.proofs.lemmas.List.Edits.{sets}
use Rattle.std.proofs.Math.Seq.{take-append_seam, drop-append_seam, take-length}
use Rattle.std.proofs.Math.Pow.{pow-lt}
use Rattle.std.specs.Int.Bits.{and_zero_r}
use Rattle.units.specs.LittleEndian.{u16_at}
use Rattle.units.specs.Words.{words, words_to_bytes}
use Rattle.units.specs.Over.{over}
use Rattle.units.proofs.Laws.Over.{sets-step, sets_past, over_nil, over_more, over_least, over_all}
use Rattle.units.proofs.Laws.Stores.{bytes-append}
use Rattle.units.proofs.Laws.Words.{words_step}
use Rattle.packing.specs.Packing.{bits, word_bits}
use Rattle.packing.specs.Weights.{powers, pick, picked}
use Rattle.packing.proofs.Laws.Bits.{and_weight, bits_above, length-bits}

pick_bit : (x m : ℕ) → x < 2 → 0 < m → cond (eqb (x * m) 0) 0 1 ≡ x
pick_bit zero m h g = let e : 0 * m ≡ 0 = omega arith in rw e
pick_bit (suc zero) m h g = rw (ne_eqb (1 * m) 0 (λ q. omega arith))
pick_bit (suc (suc x)) m h g = absurd (omega arith)

-- a bit of w by its weight
bit_weight : (w n : ℕ) → pick w (2 ^ n) ≡ w / 2 ^ n % 2
bit_weight w n = rw (and_weight w n) (pick_bit (w / 2 ^ n % 2) (2 ^ n) (omega arith) (pow_pos n))

bits-picked : (n w : ℕ) → bits n w ≡ picked w (powers n)
unfolding bits powers
bits-picked zero w = refl
bits-picked (suc n) w = ap₂ (λ (x : ℕ) (r : List ℕ). x ∷ r) (sym (bit_weight w n)) (bits-picked n w)

-- the same as two bytes for each bit: the high one, which is 0, has the weight 0
bytes-picked : (n w : ℕ) → n ≤ 8 → words_to_bytes (bits n w) ≡ picked w (words_to_bytes (powers n))
unfolding bits powers words_to_bytes
bytes-picked zero w h = refl
bytes-picked (suc n) w h =
    let x = w / 2 ^ n % 2 in
    let m : 2 ^ n < 256 = pow-lt {i = n} {j = 8} (omega arith) in
    let low : 2 ^ n % 256 ≡ 2 ^ n = omega arith in
    let high : 2 ^ n / 256 ≡ 0 = omega arith in
    let xlow : x % 256 ≡ x = omega arith in
    let xhigh : x / 256 ≡ 0 = omega arith in
    rw (low, high, xlow, xhigh, and_zero_r w, bit_weight w n) (ap (λ (r : List ℕ). x ∷ (0 ∷ r)) (bytes-picked n w (omega arith)))

-- the bits of a number in two parts
bits_split : (m n w : ℕ) → bits (m + n) w ≡ bits m (w / 2 ^ n) ++ bits n w
unfolding bits
bits_split zero n w = rw (zero-add n)
bits_split (suc m) n w =
    rw suc-add
    (ap₂ (λ (x : ℕ) (r : List ℕ). x % 2 ∷ r) (ap (λ (k : ℕ). w / 2 ^ k) (add_comm m n) ∙ sym (shr-shr w n m)) (bits_split m n w))

-- A loop over the bits of a word: bit j, then those behind it.
pub bit_next : (part : List ℕ) (w j : ℕ) → j < 16
    → sets part j (bits (16 - j) w) ≡ sets (set part j (w / 2 ^ (15 - j) % 2)) (j + 1) (bits (16 - (j + 1)) w)
unfolding bits
bit_next part w j h =
    let e : 16 - j ≡ suc (15 - j) = omega arith in
    let d : 16 - suc j ≡ 15 - j = omega arith in
    rw (add-one j, d, e)

-- or none is left, or no room
pub bits-end : (part : List ℕ) (w j : ℕ) → min 16 (length part) ≤ j → sets part j (bits (16 - j) w) ≡ part
unfolding bits
bits-end part w j h = go (ltb j 16) refl
  where
    go : (b : Bool) → ltb j 16 ≡ b → sets part j (bits (16 - j) w) ≡ part
    go true t = sets_past part j (bits (16 - j) w) (omega (arith, ltb-true j 16 t))
    go false t = let z : 16 - j ≡ 0 = omega (arith, ltb-false j 16 t) in rw z

-- A loop over weights: the bit of weight j, then those behind it.
pub pick_next : (weights part : List ℕ) (w j : ℕ) → j < length weights
    → sets part j (drop j (picked w weights)) ≡ sets (set part j (pick w (get_or weights j 0))) (j + 1) (drop (j + 1) (picked w weights))
pick_next weights part w j h =
    let e : get_or (picked w weights) j 0 ≡ pick w (get_or weights j 0) = rw (and_zero_r w) at (get_or-map (pick w) weights j 0) in
    sets-step (picked w weights) part j (omega (arith, length-map weights (pick w))) ∙ rw e

-- A loop over the bits of a word: bit j.
bit_place : (n w j : ℕ) → j < suc n → get_or (bits (suc n) w) j 0 ≡ w / 2 ^ (n - j) % 2
unfolding bits
bit_place n w zero h = let e : n - 0 ≡ n = omega arith in rw e
bit_place zero w (suc j) h = absurd (omega arith)
bit_place (suc n) w (suc j) h = let e : suc n - suc j ≡ n - j = omega arith in rw e (bit_place n w j (omega arith))

pub word_bit : (w j : ℕ) → j < 16 → get_or (bits 16 w) j 0 ≡ w / 2 ^ (15 - j) % 2
word_bit w j h = bit_place 15 w j h

pub ruleset bit_steps = (over_nil, over_more, over_least, length-bits, word_bit)

-- A loop over weights: the bit of weight j, and how many there are.
pub picked_at : (weights : List ℕ) (w j : ℕ) → get_or (picked w weights) j 0 ≡ pick w (get_or weights j 0)
picked_at weights w j = rw (and_zero_r w) at (get_or-map (pick w) weights j 0)

pub length-picked : (weights : List ℕ) (w : ℕ) → length (picked w weights) ≡ length weights
length-picked weights w = length-map weights (pick w)

pub ruleset pick_steps = (over_nil, over_more, over_all, take_all, length-picked, picked_at)

-- A loop over the words of a body: the one at byte i.
module _ (b : List ℕ) (i : ℕ) where
  -- then the others
  pub pixels_next : i + 2 ≤ length b → word_bits (words (drop i b)) ≡ bits 16 (u16_at b i) ++ word_bits (words (drop (i + 2) b))
  unfolding word_bits
  pixels_next within = rw (words_step b i within)

  pub bytes_next : i + 2 ≤ length b
      → words_to_bytes (word_bits (words (drop i b))) ≡ words_to_bytes (bits 16 (u16_at b i)) ++ words_to_bytes (word_bits (words (drop (i + 2) b)))
  bytes_next within = ap words_to_bytes (pixels_next within) ∙ bytes-append (bits 16 (u16_at b i)) (word_bits (words (drop (i + 2) b)))

  -- its bits are those of its high byte and then those of its low byte
  module _ (small : get_or b i 0 < 256) where
    abbrev low : ℕ
    low = get_or b i 0

    abbrev high : ℕ
    high = get_or b (i + 1) 0

    halves : bits 16 (u16_at b i) ≡ bits 8 high ++ bits 8 low
    unfolding u16_at
    halves =
        let w = low + 256 * high in
        let h : w / 256 ≡ high = omega arith in
        let l : w ≡ high * 256 + low = omega arith in
        bits_split 8 8 w ∙ ap₂ (λ (a c : List ℕ). a ++ c) (ap (bits 8) h) (ap (bits 8) l ∙ bits_above 8 high low)

    pub word_picked : bits 16 (u16_at b i) ≡ picked high (powers 8) ++ picked low (powers 8)
    word_picked = halves ∙ rw (bits-picked 8 high, bits-picked 8 low)

    pub word_picked-bytes : words_to_bytes (bits 16 (u16_at b i)) ≡ picked high (words_to_bytes (powers 8)) ++ picked low (words_to_bytes (powers 8))
    word_picked-bytes =
        let e : 8 ≤ 8 = omega arith in
        ap words_to_bytes halves ∙ rw (bytes-append (bits 8 high) (bits 8 low), bytes-picked 8 high e, bytes-picked 8 low e)

-- Weights that stand twice: either half of them is the weights.
pub either_half : (w old : List ℕ) (n k e : ℕ) → k ≡ length w * (n % 2) → e ≡ k + length w → length old ≡ length w
    → over (take (e - k) (drop k (w ++ w))) old ≡ w
either_half w old n k e at end room =
    let l : e - k ≡ length w = omega arith in
    let part : take (e - k) (drop k (w ++ w)) ≡ w = ap (λ (m : ℕ). take m (drop k (w ++ w))) l ∙ go (eqb (n % 2) 0) refl in
    ap (λ (x : List ℕ). over x old) part ∙ over_all w old (sym room)
  where
    go : (b : Bool) → eqb (n % 2) 0 ≡ b → take (length w) (drop k (w ++ w)) ≡ w
    go true even =
        let z : k ≡ 0 = at ∙ ap (λ (m : ℕ). length w * m) (eqb-true (n % 2) 0 even) ∙ omega arith in
        ap (λ (m : ℕ). take (length w) (drop m (w ++ w))) z ∙ take-append_seam w w
    go false odd =
        let o : n % 2 ≡ 1 = let h : n % 2 ≡ 0 → ⊥ = eqb-false (n % 2) 0 odd in omega arith in
        let z : k ≡ length w = at ∙ ap (λ (m : ℕ). length w * m) o ∙ omega arith in
        ap (λ (m : ℕ). take (length w) (drop m (w ++ w))) z ∙ ap (take (length w)) (drop-append_seam w w) ∙ take-length w
