-- A table of rejections in parts, each decided by a call: what a `?` passes on, and what is left where it does not.
use Rattle.std.specs.Prelude.{ℕ, ◌≡◌, List, ◌++◌, Result, Ok, Err}
use Rattle.std.specs.Result.{IsErrAnd}
use Rattle.std.proofs.Common.{◌∙◌, ap, refl, T}
use Rattle.refusals.specs.declared.Rejection.{Rejection}
use Rattle.refusals.specs.Rejections.{number_of, rejected_by}
use Rattle.units.specs.Rules.{Rule, first}
use Rattle.units.proofs.Laws.Rules.{by_first, by_second}
use Rattle.units.proofs.Laws.Rules as table
use Rattle.refusals.proofs.Laws.Numbers.{numbered}

pub refused : {U : Type 0} (a b : List Rule) (r : Result U Rejection) (y : Rejection) → IsErrAnd r (λ z. z ≡ y) → number_of y ≡ first a
    → rejected_by r ≡ first (a ++ b)
refused a b (Ok x) y e h = elim e [ ]
refused a b (Err z) y e h = ap number_of e ∙ by_first a b h (numbered y)

pub allowed : (a b : List Rule) → T (table.numbered a) → 0 ≡ first a → {m : ℕ} → m ≡ first b → m ≡ first (a ++ b)
allowed a b t h rest = by_second a b h t refl rest
