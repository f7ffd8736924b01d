-- A search over the numbers of a range: whether a test holds of one, and what is answered at the first of which it holds.
use Rattle.std.specs.Prelude.{ℕ, zero, suc, ◌≡◌, refl, Bool, true, false, cond, ◌||◌, Option, Some}
use Rattle.std.specs.List.{list_any, find, range_with_len}
use Rattle.std.specs.Option.{option_map, unwrap_or}
use Rattle.std.proofs.Common.{sym, add-one}
use Rattle.units.specs.Scan.{scan}

or_step : (b : Bool) {x y : Bool} → x ≡ y → cond b true x ≡ (b || y)
or_step true e = refl
or_step false e = e

pub scan-any : (hit : ℕ → Bool) (i k : ℕ) → list_any hit (range_with_len i k) ≡ scan hit (λ j. true) false i k
unfolding scan
scan-any hit i zero = refl
scan-any hit i (suc k) = sym (or_step (hit i) (sym (rw (add-one i) (scan-any hit (suc i) k))))

module _ {A : Type 0} (answer : ℕ → A) (none : A) where
  -- what is answered where a search ended
  abbrev pub answered : Option ℕ → A
  answered found = unwrap_or (option_map answer found) none

  found_step : (b : Bool) (i : ℕ) (found : Option ℕ) {x : A} → answered found ≡ x → answered (cond b (Some i) found) ≡ cond b (answer i) x
  found_step true i found e = refl
  found_step false i found e = e

  pub scan-find : (hit : ℕ → Bool) (i k : ℕ) → answered (find hit (range_with_len i k)) ≡ scan hit answer none i k
  unfolding scan
  scan-find hit i zero = refl
  scan-find hit i (suc k) = found_step (hit i) i _ (rw (add-one i) (scan-find hit (suc i) k))
