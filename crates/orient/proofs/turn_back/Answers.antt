use Rattle.std.proofs.Common.{sym, ◌∙◌}
use Rattle.refusals.proofs.Laws.Numbers.{numbered}
use Rattle.orient.proofs.Laws.Moving.{rows_back, columns_back}
use Rattle.orient.proofs.Laws.Turning.{pixels_kept}
use Rattle.orient.proofs.turn_back.Goals as goal

pub returns-in_err-turn_rejection-clause-pixels_after : goal.returns-in_err-turn_rejection-clause-pixels_after
returns-in_err-turn_rejection-clause-pixels_after c =
    let a = c.args in
    pixels_kept a.slo a.ppl a.nol a.upright.now a.pixels.now (λ z. numbered _ (c.in_err-turn_rejection.ensures ∙ z))

pub returns-then-bit_set-clause-pixels_after : goal.returns-then-bit_set-clause-pixels_after
returns-then-bit_set-clause-pixels_after c =
    let a = c.args in
    c.move_pixels.ensures
    ∙ rows_back a.slo a.ppl a.nol a.upright.now a.pixels.now (sym c.in_ok-turn_rejection.ensures) c.bit_set-right.ensures c.bit_set-bottom.ensures (sym c.bit_set.ensures ∙ c.if-bit_set.true)

pub returns-else-bit_set-clause-pixels_after : goal.returns-else-bit_set-clause-pixels_after
returns-else-bit_set-clause-pixels_after c =
    let a = c.args in
    c.move_pixels-else-bit_set.ensures
    ∙ columns_back a.slo a.ppl a.nol a.upright.now a.pixels.now (sym c.in_ok-turn_rejection.ensures) c.bit_set-right.ensures c.bit_set-bottom.ensures (sym c.bit_set.ensures ∙ c.if-bit_set.false)
