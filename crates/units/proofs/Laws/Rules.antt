-- Tables of rules: none holds, and two tables one after the other. And two tests that both hold.
use Rattle.std.specs.Prelude.{ℕ, ◌≤◌, ◌<◌, ◌≡◌, refl, Bool, true, false, cond, ◌&&◌, List, [], ◌∷◌, ◌++◌, T, ltb, leb, eqb}
use Rattle.std.proofs.Common.{sym, ◌∙◌, arith, ltb→lt, leb→le, eqb-true}
use Rattle.std.proofs.lemmas.Bool.{false≢true, eqb-false}
use Rattle.std.proofs.Math.Facts.{and_yes}
use Rattle.units.specs.Rules.{Rule, first}

-- no rule has the number 0, which says that no test holds
abbrev pub numbered : List Rule → Bool
numbered [] = true
numbered (r ∷ rs) = ltb 0 r.number && numbered rs

-- no test of the table holds
abbrev pub NoneHolds : List Rule → Type 0
NoneHolds [] = Unit {0}
NoneHolds (r ∷ rs) = (r.test ≡ false) × NoneHolds rs

above_zero : (n : ℕ) → T (ltb 0 n) → n ≡ 0 → ⊥
above_zero n t e = let h : 0 < n = ltb→lt 0 n t in omega arith

none-step : (t : Bool) (n x : ℕ) {P : Type 0} → T (ltb 0 n) → (x ≡ 0 → P) → cond t n x ≡ 0 → (t ≡ false) × P
none-step true n x p ih h = absurd (above_zero n p h)
none-step false n x p ih h = (refl, ih h)

pub none_holds : (rs : List Rule) → T (numbered rs) → first rs ≡ 0 → NoneHolds rs
none_holds [] n h = tt
none_holds (r ∷ rs) n h =
    let k : T (ltb 0 r.number) × T (numbered rs) = and_yes (ltb 0 r.number) (numbered rs) n in
    none-step r.test r.number (first rs) k.0 (none_holds rs k.1) h

-- no rule has a number below m, so neither has the first that holds
abbrev pub numbered_from : ℕ → List Rule → Bool
numbered_from m [] = true
numbered_from m (r ∷ rs) = leb m r.number && numbered_from m rs

from_step : (t : Bool) (n x m : ℕ) → T (leb m n) → ((x ≡ 0 → ⊥) → m ≤ x) → (cond t n x ≡ 0 → ⊥) → m ≤ cond t n x
from_step true n x m p ih h = leb→le m n p
from_step false n x m p ih h = ih h

pub first_from : (m : ℕ) (rs : List Rule) → T (numbered_from m rs) → (first rs ≡ 0 → ⊥) → m ≤ first rs
first_from m [] n h = absurd (h refl)
first_from m (r ∷ rs) n h =
    let k : T (leb m r.number) × T (numbered_from m rs) = and_yes (leb m r.number) (numbered_from m rs) n in
    from_step r.test r.number (first rs) m k.0 (first_from m rs k.1) h

-- of two tables one after the other: the first one's answer where it has one, else the second's
here_step : (t : Bool) (n x y : ℕ) → ((x ≡ 0 → ⊥) → y ≡ x) → (cond t n x ≡ 0 → ⊥) → cond t n y ≡ cond t n x
here_step true n x y ih h = refl
here_step false n x y ih h = ih h

pub first_here : (a b : List Rule) → (first a ≡ 0 → ⊥) → first (a ++ b) ≡ first a
first_here [] b h = absurd (h refl)
first_here (r ∷ rs) b h = here_step r.test r.number (first rs) (first (rs ++ b)) (first_here rs b) h

later_step : (t : Bool) (n x y z : ℕ) → T (ltb 0 n) → (x ≡ 0 → y ≡ z) → cond t n x ≡ 0 → cond t n y ≡ z
later_step true n x y z p ih h = absurd (above_zero n p h)
later_step false n x y z p ih h = ih h

pub first_later : (a b : List Rule) → T (numbered a) → first a ≡ 0 → first (a ++ b) ≡ first b
first_later [] b n h = refl
first_later (r ∷ rs) b n h =
    let k : T (ltb 0 r.number) × T (numbered rs) = and_yes (ltb 0 r.number) (numbered rs) n in
    later_step r.test r.number (first rs) (first (rs ++ b)) (first b) k.0 (first_later rs b k.1) h

-- no test of two tables one after the other holds
pub both_none : (a b : List Rule) → T (numbered a) → first (a ++ b) ≡ 0 → (first a ≡ 0) × (first b ≡ 0)
both_none a b n h = go (eqb (first a) 0) refl
  where
    go : (s : Bool) → eqb (first a) 0 ≡ s → (first a ≡ 0) × (first b ≡ 0)
    go true e = let z : first a ≡ 0 = eqb-true (first a) 0 e in (z, sym (first_later a b n z) ∙ h)
    go false e = let s : first a ≡ 0 → ⊥ = eqb-false (first a) 0 e in absurd (s (sym (first_here a b s) ∙ h))

-- the number of a table in two parts, by the number of each
module _ (a b : List Rule) {n : ℕ} (number : n ≡ first a) where
  pub by_first : (n ≡ 0 → ⊥) → n ≡ first (a ++ b)
  by_first some = number ∙ sym (first_here a b (λ z. some (number ∙ z)))

  pub by_second : T (numbered a) → n ≡ 0 → {m : ℕ} → m ≡ first b → m ≡ first (a ++ b)
  by_second t none rest = rest ∙ sym (first_later a b t (sym number ∙ none))

  pub by_either : T (numbered a) → {m r : ℕ} → m ≡ first b → r ≡ cond (eqb n 0) m n → r ≡ first (a ++ b)
  by_either t {m} rest e = e ∙ go (eqb n 0) refl
    where
      go : (s : Bool) → eqb n 0 ≡ s → cond s m n ≡ first (a ++ b)
      go true z = by_second t (eqb-true n 0 z) rest
      go false z = by_first (eqb-false n 0 z)

pub both_true : (a b : Bool) → (a && b) ≡ true → (a ≡ true) × (b ≡ true)
both_true true b e = (refl, e)
both_true false b e = absurd (false≢true e)
