-- How many pixels at the start of a row have a value, and the run that they end.
use Rattle.std.specs.Prelude.{ℕ, suc, ◌+◌, ◌-◌, ◌≤◌, ◌<◌, ◌≡◌, Bool, true, false, cond, List, [], ◌∷◌, length, get_or, drop, eqb}
use Rattle.std.proofs.Common.{zero-le, sym, ◌∙◌, ap, add-one, arith, length-drop, drop_of_length-le, drop-drop}
use borrow.Author.Tests.{eq-eqb, ne_eqb}
use Rattle.std.proofs.Math.Seq.{drop-cons}
use Rattle.codec.specs.Leading.{leading}

leading_le : (v : ℕ) (l : List ℕ) → leading v l ≤ length l
unfolding leading
leading_le v [] = zero-le
leading_le v (x ∷ r) = go (eqb x v) (leading_le v r)
  where
    go : (b : Bool) → leading v r ≤ length r → cond b (suc (leading v r)) 0 ≤ suc (length r)
    go true h = omega arith
    go false h = zero-le

-- those from pixel i on
module _ (row : List ℕ) (i v : ℕ) where
  pub leading_within : i ≤ length row → i + leading v (drop i row) ≤ length row
  leading_within h = omega (arith, leading_le v (drop i row), length-drop i row)

  pub leading_more : i < length row → get_or row i 0 ≡ v → leading v (drop i row) ≡ 1 + leading v (drop (i + 1) row)
  unfolding leading
  leading_more h e = rw (add-one i, drop-cons row i 0 h, eq-eqb (get_or row i 0) v e) (omega arith)

  pub leading_stop : i < length row → (get_or row i 0 ≡ v → ⊥) → leading v (drop i row) ≡ 0
  unfolding leading
  leading_stop h n = rw (drop-cons row i 0 h, ne_eqb (get_or row i 0) v n)

  pub leading_end : length row ≤ i → leading v (drop i row) ≡ 0
  unfolding leading
  leading_end h = rw (drop_of_length-le row {i = i} h)

-- The run that starts at pixel i and ends at e: what is behind it, and its length.
module _ (row : List ℕ) (i e v : ℕ) (h : e ≡ i + 1 + leading v (drop (i + 1) row)) where
  ends : e ≡ suc i + leading v (drop (suc i) row)
  ends = rw (add-one i) at h

  pub run-behind : drop (leading v (drop (suc i) row)) (drop (suc i) row) ≡ drop e row
  run-behind = drop-drop (leading v (drop (suc i) row)) (suc i) row ∙ ap (λ (m : ℕ). drop m row) (sym ends)

  pub run-size : 1 + leading v (drop (suc i) row) ≡ e - i
  run-size = omega (arith, ends)
