use Rattle.std.proofs.Common.{ℕ, Bool, ◌+◌, ◌∙◌, ◌-◌, rules, tests, refl}
use Rattle.std.proofs.lemmas.Iterator.{YieldsList-from_range}
use Rattle.std.proofs.lemmas.Iterator.Search.{any_from_yields_List}
use Rattle.header.specs.Rejections.{slot_at, slot_occurs, shares_slot}
use Rattle.header.proofs.Laws.Entries.{scan-any}
use Rattle.header.proofs.rejection.shares_slot.Goals as goal

pub returns : goal.returns
unfolding shares_slot
returns c =
    let a = c.args in
    let hit : ℕ → Bool = λ j. slot_occurs a.file.now (slot_at a.file.now j) (j + 1) a.cte in
    any_from_yields_List hit _ _ _ c.any.ensures.ran (YieldsList-from_range 0 a.cte _ (cc) refl) (λ x b q k. search (rules, tests)) ∙ scan-any hit 0 (a.cte - 0)
