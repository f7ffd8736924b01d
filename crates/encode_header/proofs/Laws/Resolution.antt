-- The bits of a signed number, turned or kept.
use Rattle.std.specs.Prelude.{◌≡◌, refl, true, false, ℕ, suc, ◌-◌, ◌<◌, T, ℤ, pos, negsuc, nat_abs}
use Rattle.std.proofs.Common.{sym, ◌∙◌, ap, subst, arith, ltb→lt, Fits, SFits, to_z, of_z, to_z-of_z}
use Rattle.std.specs.Int.Signed.{mag, lt_z, non_neg}
use Rattle.std.specs.Int.{w16}
use Rattle.std.proofs.Math.Facts.{to_z_pos, Fits-nat_abs}
use Rattle.encode_header.specs.Resolution.{drs_bits}

-- The bits of -(n + 1), turned, are those of n, and those of n, turned, are what is stored. `mag` is n of both.
turn : (z : ℤ) → SFits w16 z → lt_z z (pos 0) ≡ true → (to_z w16 (65535 - of_z w16 z) ≡ pos (mag z)) × (65535 - mag z ≡ drs_bits z)
turn (pos n) f t = absurd (none n (ltb→lt n 0 (subst T (sym t) tt)))
  where
    none : (n : ℕ) → n < 0 → ⊥
    none n h = omega arith
turn (negsuc n) f t = (ap (to_z w16) (twice n f.sfits) ∙ to_z_pos w16 f.sfits, refl)
  where
    twice : (n : ℕ) → n < 32768 → 65535 - (65536 - suc n) ≡ n
    twice n h = omega arith

-- Any other number is stored as it is.
keep : (z : ℤ) → lt_z z (pos 0) ≡ false → (z ≡ pos (mag z)) × (mag z ≡ drs_bits z)
keep (pos n) t = (refl, refl)
keep (negsuc n) t = absurd (subst T t tt)

-- The same where the test reads the number back from its bits.
pub turned : {z : ℤ} → SFits w16 z → lt_z (to_z w16 (of_z w16 z)) (pos 0) ≡ true → (to_z w16 (65535 - of_z w16 z) ≡ pos (mag z)) × (65535 - mag z ≡ drs_bits z)
turned {z} f t = turn z f (subst (λ (x : ℤ). lt_z x (pos 0) ≡ true) (to_z-of_z f) t)

pub kept : {z : ℤ} → SFits w16 z → lt_z (to_z w16 (of_z w16 z)) (pos 0) ≡ false → (to_z w16 (of_z w16 z) ≡ pos (mag z)) × (mag z ≡ drs_bits z)
kept {z} f t = (to_z-of_z f ∙ k.0, k.1)
  where
    k : (z ≡ pos (mag z)) × (mag z ≡ drs_bits z)
    k = keep z (subst (λ (x : ℤ). lt_z x (pos 0) ≡ false) (to_z-of_z f) t)

-- What reads as such an n may be cast to the unsigned type.
pub castable : {x z : ℤ} → SFits w16 z → x ≡ pos (mag z) → T (non_neg x) × Fits w16 (nat_abs x)
castable {x} {z} f e = subst (λ (y : ℤ). T (non_neg y) × Fits w16 (nat_abs y)) (sym e) (tt, Fits-nat_abs {w = w16} {z = pos (mag z)} tt (record { sfits = f.sfits }))
