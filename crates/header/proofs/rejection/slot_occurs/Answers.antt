use Rattle.std.proofs.Common.{ℕ, Bool, ◌∙◌, ◌-◌, eqb, rules, tests, refl}
use Rattle.std.proofs.lemmas.Iterator.{YieldsList-from_range}
use Rattle.std.proofs.lemmas.Iterator.Search.{any_from_yields_List}
use Rattle.header.specs.Rejections.{slot_at, slot_occurs}
use Rattle.header.proofs.Laws.Entries.{scan-any}
use Rattle.header.proofs.rejection.slot_occurs.Goals as goal

pub returns : goal.returns
unfolding slot_occurs
returns c =
    let a = c.args in
    let hit : ℕ → Bool = λ j. eqb (slot_at a.file.now j) a.slot in
    any_from_yields_List hit _ _ _ c.any.ensures.ran (YieldsList-from_range a.from a.cte _ (cc) refl) (λ x b q k. search (rules, tests)) ∙ scan-any hit a.from (a.cte - a.from)
