-- Facts on numbers that several crates need.
use Rattle.std.specs.Prelude.{ℕ, suc, ◌*◌, ◌^◌, ◌<◌, ◌≡◌, refl, Bool, true, false, ◌⊎◌, eqb, ltb}
use Rattle.std.proofs.Math.Path.{subst⁻¹}
use Rattle.std.proofs.Common.{inl, inr, le_of_lt, lt_of_le_of_lt, mul-le-mul_left, mul-lt-mul_of_pos_right, arith, pow_pos, pow-add, ltb-true, ltb-false}
use Rattle.std.proofs.lemmas.Bool.{eqb-false}

-- a number that is not 0
pub above_zero : (n : ℕ) → eqb n 0 ≡ false → 0 < n
above_zero n t = let h : n ≡ 0 → ⊥ = eqb-false n 0 t in omega arith

-- a number below the next one is below this one, or is this one
pub below_next : (j k : ℕ) → j < suc k → (j < k) ⊎ (j ≡ k)
below_next j k h = go (ltb j k) refl
  where
    go : (t : Bool) → ltb j k ≡ t → (j < k) ⊎ (j ≡ k)
    go true e = inl (ltb-true j k e)
    go false e = inr (omega (arith, ltb-false j k e))

-- a product of two numbers of 32 bits
pub product_fits : {a b : ℕ} → a < 2 ^ 32 → b < 2 ^ 32 → a * b < 2 ^ 64
product_fits {a} {b} ha hb =
    subst⁻¹ (λ (n : ℕ). a * b < n) (pow-add 2 32 32)
    (lt_of_le_of_lt (mul-le-mul_left a (le_of_lt hb)) (mul-lt-mul_of_pos_right ha (pow_pos 32)))
