use Rattle.std.proofs.Common.{sym, ◌∙◌}
use Rattle.refusals.proofs.Laws.Numbers.{numbered}
use Rattle.orient.proofs.Laws.Moving.{rows_turned, columns_turned}
use Rattle.orient.proofs.Laws.Turning.{upright_kept}
use Rattle.orient.proofs.turn.Goals as goal

pub returns-in_err-turn_rejection-clause-upright_after : goal.returns-in_err-turn_rejection-clause-upright_after
returns-in_err-turn_rejection-clause-upright_after c =
    let a = c.args in
    upright_kept a.slo a.ppl a.nol a.pixels.now a.upright.now (λ z. numbered _ (c.in_err-turn_rejection.ensures ∙ z))

pub returns-then-bit_set-clause-upright_after : goal.returns-then-bit_set-clause-upright_after
returns-then-bit_set-clause-upright_after c =
    let a = c.args in
    c.move_pixels.ensures
    ∙ rows_turned a.slo a.ppl a.nol a.pixels.now a.upright.now (sym c.in_ok-turn_rejection.ensures) c.bit_set-right.ensures c.bit_set-bottom.ensures (sym c.bit_set.ensures ∙ c.if-bit_set.true)

pub returns-else-bit_set-clause-upright_after : goal.returns-else-bit_set-clause-upright_after
returns-else-bit_set-clause-upright_after c =
    let a = c.args in
    c.move_pixels-else-bit_set.ensures
    ∙ columns_turned a.slo a.ppl a.nol a.pixels.now a.upright.now (sym c.in_ok-turn_rejection.ensures) c.bit_set-right.ensures c.bit_set-bottom.ensures (sym c.bit_set.ensures ∙ c.if-bit_set.false)
