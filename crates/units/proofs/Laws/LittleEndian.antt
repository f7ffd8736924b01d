-- Numbers past the end of a list, and the low bytes of one.
use Rattle.std.specs.Prelude.{ℕ, zero, suc, ◌+◌, ◌%◌, ◌≤◌, ◌≡◌, refl, List, [], ◌∷◌, length, get_or}
use Rattle.std.proofs.Common.{arith}
use Rattle.std.proofs.lemmas.List.{length-map}
use Rattle.std.proofs.Math.ListN.{get_or-eq_default}
use Rattle.units.specs.LittleEndian.{u16_at, u32_at, low_bytes}

pub u16_at_past : (s : List ℕ) (at : ℕ) → length s ≤ at → u16_at s at ≡ 0
unfolding u16_at
u16_at_past s at h =
    let h₁ : length s ≤ at + 1 = omega arith in
    omega (arith, get_or-eq_default s 0 h, get_or-eq_default s 0 h₁)

pub u32_at_past : (s : List ℕ) (at : ℕ) → length s ≤ at → u32_at s at ≡ 0
unfolding u32_at
u32_at_past s at h =
    let h₂ : length s ≤ at + 2 = omega arith in
    omega (arith, u16_at_past s at h, u16_at_past s (at + 2) h₂)

-- the low bytes of a list
pub length-low : (xs : List ℕ) → length (low_bytes xs) ≡ length xs
length-low xs = length-map xs (λ (x : ℕ). x % 256)

pub get_or-low : (xs : List ℕ) (i : ℕ) → get_or (low_bytes xs) i 0 ≡ get_or xs i 0 % 256
get_or-low [] i = refl
get_or-low (x ∷ xs) zero = refl
get_or-low (x ∷ xs) (suc i) = get_or-low xs i

pub ruleset low_places = (length-low, get_or-low)
