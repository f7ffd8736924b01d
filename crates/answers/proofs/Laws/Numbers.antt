-- Numbers stored one after the other, and read again.
use Rattle.std.specs.Prelude.{ℕ, zero, suc, ◌+◌, ◌*◌, ◌/◌, ◌%◌, ◌^◌, ◌≤◌, ◌<◌, ◌≡◌, refl, List, [], ◌∷◌, length, get_or, drop}
use Rattle.std.proofs.Common.{sym, ◌∙◌, ap, add-one, arith, drop_of_length-le, drop-cons}
use Rattle.std.proofs.Math.Nat.{div-div-eq-div-mul}
use Rattle.std.proofs.lemmas.List.Edits.{sets}
use Rattle.units.specs.LittleEndian.{u16_at, u32_at, u32_bytes}
use Rattle.units.specs.Over.{over}
use Rattle.units.proofs.Laws.Over.{sets-append, sets_misses, sets_over}
use Rattle.answers.specs.Answer.{number_bytes}
use Rattle.answers.specs.Statement.{NumbersStored}

-- number i and those behind it, or none is left
pub sets-number : (ns out : List ℕ) (i : ℕ) → i < length ns
    → sets out (4 * i) (number_bytes (drop i ns)) ≡ sets (sets out (4 * i) (u32_bytes (get_or ns i 0))) (4 * (i + 1)) (number_bytes (drop (i + 1) ns))
unfolding number_bytes
sets-number ns out i h =
    let e : 4 * (i + 1) ≡ 4 * i + 4 = omega arith in
    rw (e, add-one i, drop-cons ns i 0 h) (sets-append out (4 * i) (u32_bytes (get_or ns i 0)) (number_bytes (drop (suc i) ns)))

pub sets-none : (ns out : List ℕ) (i : ℕ) → length ns ≤ i → sets out (4 * i) (number_bytes (drop i ns)) ≡ out
unfolding number_bytes
sets-none ns out i h = rw (drop_of_length-le ns {i = i} h)

length-numbers : (ns : List ℕ) → length (number_bytes ns) ≡ 4 * length ns
unfolding number_bytes
length-numbers [] = refl
length-numbers (n ∷ r) = omega (arith, length-numbers r)

-- the four bytes of a number are the number
joined : (n : ℕ) → n < 2 ^ 32 → n % 256 + 256 * (n / 256 % 256) + 65536 * (n / 65536 % 256 + 256 * (n / 65536 / 256 % 256)) ≡ n
joined n h = omega (arith, div-div-eq-div-mul n 256 256)

read_at : (ns answer : List ℕ) (i : ℕ) → i < length ns → get_or ns i 0 < 2 ^ 32 → 4 * i + 4 ≤ length answer
    → u32_at (over (number_bytes ns) answer) (4 * i) ≡ get_or ns i 0
unfolding number_bytes over u32_at u16_at
read_at [] answer i h f l = absurd (omega arith)
read_at (n ∷ r) [] i h f l = absurd (omega arith)
read_at (n ∷ r) (a ∷ []) i h f l = absurd (omega arith)
read_at (n ∷ r) (a ∷ (b ∷ [])) i h f l = absurd (omega arith)
read_at (n ∷ r) (a ∷ (b ∷ (c ∷ []))) i h f l = absurd (omega arith)
read_at (n ∷ r) (a ∷ (b ∷ (c ∷ (d ∷ rest)))) zero h f l = joined n f
read_at (n ∷ r) (a ∷ (b ∷ (c ∷ (d ∷ rest)))) (suc i) h f l =
    let e₃ : 4 * suc i + 2 + 1 ≡ suc (suc (suc (suc (4 * i + 2 + 1)))) = omega arith in
    let e₂ : 4 * suc i + 2 ≡ suc (suc (suc (suc (4 * i + 2)))) = omega arith in
    let e₁ : 4 * suc i + 1 ≡ suc (suc (suc (suc (4 * i + 1)))) = omega arith in
    let e₀ : 4 * suc i ≡ suc (suc (suc (suc (4 * i)))) = omega arith in
    rw (e₃, e₂, e₁, e₀) (read_at r rest i (omega arith) f (omega arith))

pub numbers-stored : NumbersStored
numbers-stored ns answer =
    record {
      size = length-numbers ns;
      number = read_at ns answer;
      past =
          λ j h. ap (λ (l : List ℕ). get_or l j 0) (sym (sets_over (number_bytes ns) answer))
          ∙ sets_misses answer 0 (number_bytes ns) j (λ a b. omega (arith, length-numbers ns));
    }
