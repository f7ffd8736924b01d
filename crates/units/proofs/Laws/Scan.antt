-- A search over a range: its end, a hit and a miss, and what holds of all that it may find.
use Rattle.std.specs.Prelude.{ℕ, zero, suc, ◌+◌, ◌-◌, ◌≤◌, ◌<◌, ◌≡◌, Bool, true, false, cond}
use Rattle.std.proofs.Common.{ap, sym, add-one}
use native.Mathlib.Omega.{arith}
use Rattle.units.specs.Scan.{scan}

-- what is left of a range from i to n, at its end and one step on
module _ {A : Type 0} (hit : ℕ → Bool) (answer : ℕ → A) (none : A) (i n : ℕ) where
  pub scan-end : n ≤ i → scan hit answer none i (n - i) ≡ none
  unfolding scan
  scan-end h = rw (let z : n - i ≡ 0 = omega arith in z)

  left : i < n → n - i ≡ suc (n - (i + 1))
  left h = omega arith

  pub scan_hit : i < n → hit i ≡ true → scan hit answer none i (n - i) ≡ answer i
  unfolding scan
  scan_hit h t = rw (left h, t)

  pub scan_miss : i < n → hit i ≡ false → scan hit answer none i (n - i) ≡ scan hit answer none (i + 1) (n - (i + 1))
  unfolding scan
  scan_miss h t = rw (left h, t) (ap (λ (j : ℕ). scan hit answer none j (n - (i + 1))) (sym (add-one i)))

-- what holds of both is held by the one that a test picks
pub either : {A : Type 0} (P : A → Type 0) (b : Bool) {x y : A} → P x → P y → P (cond b x y)
either P true p q = p
either P false p q = q

pub scan_all : {A : Type 0} (P : A → Type 0) (hit : ℕ → Bool) (answer : ℕ → A) (none : A) → ((j : ℕ) → P (answer j)) → P none
    → (i k : ℕ) → P (scan hit answer none i k)
unfolding scan
scan_all P hit answer none a n i zero = n
scan_all P hit answer none a n i (suc k) = either P (hit i) (a i) (scan_all P hit answer none a n (suc i) k)
