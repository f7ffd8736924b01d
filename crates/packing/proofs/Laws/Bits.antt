-- The bits of a number and of words.
use Rattle.std.specs.Prelude.{ℕ, zero, suc, ◌+◌, ◌-◌, ◌*◌, ◌/◌, ◌%◌, ◌^◌, ◌<◌, ◌≡◌, refl, Bool, not, ◌||◌, List, [], ◌∷◌, length, drop, eqb}
use Rattle.std.proofs.Common.{sym, ◌∙◌, ap, ap₂, pow-suc, mul_assoc, mul_comm, zero-add, suc-add, one-add, arith, ne_eqb, length-append, pow_pos}
use Rattle.std.proofs.Math.Nat.{mul-add-div_right, mod-one}
use Rattle.std.proofs.lemmas.Nat.{mod-pow-add}
use Rattle.std.specs.Int.Bits.{bit_and}
use Rattle.std.proofs.lemmas.Nat.Bits.{and_high}
use Rattle.units.proofs.Laws.Below.{AllBelow, all_append}
use Rattle.packing.specs.Packing.{bits, word_bits, any_set}

pub length-bits : (n w : ℕ) → length (bits n w) ≡ n
unfolding bits
length-bits zero w = refl
length-bits (suc n) w = ap suc (length-bits n w)

pub length-word_bits : (ws : List ℕ) → length (word_bits ws) ≡ 16 * length ws
unfolding word_bits
length-word_bits [] = refl
length-word_bits (w ∷ ws) = length-append (bits 16 w) (word_bits ws) ∙ omega (arith, length-bits 16 w, length-word_bits ws)

-- one bit more
pub mod_step : (w n : ℕ) → w % 2 ^ suc n ≡ w / 2 ^ n % 2 * 2 ^ n + w % 2 ^ n
mod_step w n = ap (λ (k : ℕ). w % 2 ^ k) (sym (one-add n)) ∙ mod-pow-add w 1 n

pub pow_step : (n : ℕ) → 2 ^ suc n ≡ 2 * 2 ^ n
pow_step n = pow-suc 2 n ∙ mul_comm (2 ^ n) 2

-- what lies above the lowest n bits does not show in them
pub bits_above : (n a y : ℕ) → bits n (a * 2 ^ n + y) ≡ bits n y
unfolding bits
bits_above zero a y = refl
bits_above (suc n) a y =
    let e : a * 2 ^ suc n ≡ a * 2 * 2 ^ n = ap (λ (m : ℕ). a * m) (pow_step n) ∙ sym (mul_assoc a 2 (2 ^ n)) in
    let d : (a * 2 * 2 ^ n + y) / 2 ^ n ≡ a * 2 + y / 2 ^ n = mul-add-div_right (pow_pos n) (a * 2) y in
    let h : (a * 2 + y / 2 ^ n) % 2 ≡ y / 2 ^ n % 2 = omega arith in
    rw e (ap₂ (λ (x : ℕ) (r : List ℕ). x ∷ r) (ap (λ (m : ℕ). m % 2) d ∙ h) (bits_above n (a * 2) y))

pub drop_bits : (m n w : ℕ) → drop m (bits (m + n) w) ≡ bits n w
unfolding bits
drop_bits zero n w = rw (zero-add n)
drop_bits (suc m) n w = rw (suc-add m n) (drop_bits m n w)

-- a bit is set where the number is not 0
or_step : (x m y : ℕ) (b : Bool) → x < 2 → 0 < m → b ≡ not (eqb y 0) → (not (eqb x 0) || b) ≡ not (eqb (x * m + y) 0)
or_step zero m y b h g e = let z : 0 * m + y ≡ y = omega arith in rw z e
or_step (suc zero) m y b h g e = sym (ap not (ne_eqb (1 * m + y) 0 (λ q. omega arith)))
or_step (suc (suc x)) m y b h g e = absurd (omega arith)

pub any_bits : (n w : ℕ) → any_set (bits n w) ≡ not (eqb (w % 2 ^ n) 0)
unfolding bits any_set
any_bits zero w = ap (λ (k : ℕ). not (eqb k 0)) (sym (mod-one w))
any_bits (suc n) w =
    or_step (w / 2 ^ n % 2) (2 ^ n) (w % 2 ^ n) (any_set (bits n w)) (omega arith) (pow_pos n) (any_bits n w)
    ∙ ap (λ (k : ℕ). not (eqb k 0)) (sym (mod_step w n))

-- a bit by its weight
pub and_weight : (w n : ℕ) → bit_and w (2 ^ n) ≡ w / 2 ^ n % 2 * 2 ^ n
and_weight w n =
    let e : 2 ^ (1 + n) - 2 ^ n ≡ 2 ^ n = ap (λ (k : ℕ). 2 ^ k - 2 ^ n) (one-add n) ∙ omega (arith, pow_step n) in
    ap (λ (m : ℕ). bit_and w m) (sym e) ∙ and_high w 1 n

-- each is 0 or 1
pub bits_below : (n w : ℕ) → AllBelow 2 (bits n w)
unfolding bits
bits_below zero w = tt
bits_below (suc n) w = (omega arith, bits_below n w)

pub word_bits_below : (ws : List ℕ) → AllBelow 2 (word_bits ws)
unfolding word_bits
word_bits_below [] = tt
word_bits_below (w ∷ ws) = all_append 2 (bits 16 w) (word_bits ws) (bits_below 16 w) (word_bits_below ws)
