use Rattle.std.proofs.Common.{ℕ, ◌-◌, ◌∙◌, Bool, None, Some, ap, eqb, refl, rules, tests}
use Rattle.std.proofs.lemmas.Iterator.{YieldsList-from_range}
use Rattle.std.proofs.lemmas.Iterator.Search.{find_from_yields_List}
use Rattle.header.specs.Rejections.{slot_at}
use Rattle.header.proofs.Laws.Entries.{answered, scan-find}
use Rattle.color.specs.Color.{entry_color, no_color}
use Rattle.color.proofs.environ_color.Goals as goal

pub returns-in-Some : goal.returns-in-Some
returns-in-Some c =
    let a = c.args in
    let f = a.file.now in
    let hit : ℕ → Bool = λ i. eqb (slot_at f i) a.value in
    c.entry_color.ensures
    ∙ ap (answered (entry_color f) (no_color 25))
    (find_from_yields_List hit c.find.new.self _ (Some c.in-Some.i) c.in-Some.ensures.ran (YieldsList-from_range 0 a.cte _ (cc) refl) (λ x b q k. search (rules, tests)))
    ∙ scan-find (entry_color f) (no_color 25) hit 0 (a.cte - 0)

pub returns-in-None : goal.returns-in-None
returns-in-None c =
    let a = c.args in
    let f = a.file.now in
    let hit : ℕ → Bool = λ i. eqb (slot_at f i) a.value in
    ap (answered (entry_color f) (no_color 25))
    (find_from_yields_List hit c.find.new.self _ None c.in-None.ensures.ran (YieldsList-from_range 0 a.cte _ (cc) refl) (λ x b q k. search (rules, tests)))
    ∙ scan-find (entry_color f) (no_color 25) hit 0 (a.cte - 0)
