-- Lists of bytes that agree in places.
use Rattle.std.specs.Prelude.{ℕ, zero, suc, ◌+◌, ◌≤◌, ◌<◌, ◌≡◌, refl, Bool, List, length, get_or, take, drop}
use Rattle.std.proofs.Common.{arith, length-take, length-drop, ext_get_or, get_or-take, get_or-drop}
use Rattle.units.specs.LittleEndian.{u16_at, u32_at}
use Rattle.units.specs.Scan.{scan}

-- n bytes from s on
pub same_window : (a b : List ℕ) (s n : ℕ) → length a ≡ length b → ((i : ℕ) → s ≤ i → i < s + n → get_or a i 0 ≡ get_or b i 0)
    → take n (drop s a) ≡ take n (drop s b)
same_window a b s n e h =
    ext_get_or 0 (take n (drop s a)) (take n (drop s b)) (simp (length-take, length-drop, e))
    (λ i l.
    let m : i < n = omega (arith, length-take n (drop s a)) in
    let low : s ≤ s + i = omega arith in
    let high : s + i < s + n = omega arith in
    rw (get_or-take n (drop s a) i 0 m, get_or-take n (drop s b) i 0 m, get_or-drop s a i 0, get_or-drop s b i 0) (h (s + i) low high))

-- the numbers that lie below byte n
module _ (a b : List ℕ) (n : ℕ) (same : (i : ℕ) → i < n → get_or a i 0 ≡ get_or b i 0) where
  pub same_u16 : (at : ℕ) → at + 2 ≤ n → u16_at a at ≡ u16_at b at
  unfolding u16_at
  same_u16 at h = rw (same at (omega arith), same (at + 1) (omega arith))

  pub same_u32 : (at : ℕ) → at + 4 ≤ n → u32_at a at ≡ u32_at b at
  unfolding u32_at
  same_u32 at h = rw (same_u16 at (omega arith), same_u16 (at + 2) (omega arith))

-- scans over the same hits with the same answers
pub same_scan : {A : Type 0} (hit other : ℕ → Bool) (answer reply : ℕ → A) (none : A) (i k : ℕ)
    → ((j : ℕ) → i ≤ j → j < i + k → (hit j ≡ other j) × (answer j ≡ reply j)) → scan hit answer none i k ≡ scan other reply none i k
unfolding scan
same_scan hit other answer reply none i zero h = refl
same_scan hit other answer reply none i (suc k) h =
    let here = h i (omega arith) (omega arith) in
    rw (here.0, here.1, same_scan hit other answer reply none (suc i) k (λ j l u. h j (omega arith) (omega arith)))
