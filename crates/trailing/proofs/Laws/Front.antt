-- Lists with the same n bytes in front.
use Rattle.std.specs.Prelude.{ℕ, ◌+◌, ◌≤◌, ◌<◌, ◌≡◌, List, length, get_or, take, drop}
use Rattle.std.proofs.Common.{sym, ◌∙◌, ap, arith, length-take, length-take-le, take-take, take-add, drop_at, ext_get_or, get_or-take}

-- byte by byte
pub front_by_byte : (a b : List ℕ) (n : ℕ) → n ≤ length a → n ≤ length b → ((i : ℕ) → i < n → get_or a i 0 ≡ get_or b i 0) → take n a ≡ take n b
front_by_byte a b n la lb same =
    let ea : length (take n a) ≡ n = length-take-le n a la in
    ext_get_or 0 (take n a) (take n b) (ea ∙ sym (length-take-le n b lb))
    (λ i l.
    let m : i < n = omega arith in
    get_or-take n a i 0 m ∙ same i m ∙ sym (get_or-take n b i 0 m))

module _ (a b : List ℕ) (n : ℕ) (same : take n a ≡ take n b) where
  -- where the one has them all, so has the other
  pub front_long : n ≤ length b → n ≤ length a
  front_long h = omega (arith, length-take n a, length-take n b, ap length same)

  -- fewer bytes
  pub front_less : (m : ℕ) → m ≤ n → take m a ≡ take m b
  front_less m h = sym (take-take m n a h) ∙ ap (take m) same ∙ take-take m n b h

  -- m bytes from s on
  pub front_part : (s m : ℕ) → s ≤ length a → s ≤ length b → s + m ≤ n → take m (drop s a) ≡ take m (drop s b)
  front_part s m la lb h =
      sym (part a la) ∙ ap (drop s) (front_less (s + m) h) ∙ part b lb
    where
      part : (l : List ℕ) → s ≤ length l → drop s (take (s + m) l) ≡ take m (drop s l)
      part l e = ap (drop s) (take-add s m l) ∙ drop_at (take s l) (take m (drop s l)) s (length-take-le s l e)
