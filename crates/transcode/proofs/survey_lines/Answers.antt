use Rattle.std.proofs.Common.{arith}
use Rattle.std.proofs.lemmas.Grind.{common_steps}
use Rattle.transcode.proofs.Laws.Survey.{survey_first, survey_refused, used_within, body_most, survey_next}
use Rattle.transcode.proofs.survey_lines.Goals as goal

pub loop-k-init : goal.loop-k-init
loop-k-init c = survey_first c.requires

pub returns-in_default-clause-surveyed : goal.returns-in_default-clause-surveyed
returns-in_default-clause-surveyed c =
    let n = c.number_line-numbered.ensures in
    survey_refused c.loop-k.invariant c.loop-k-test.true c.other_type-to.ensures n.rollover_value n.number_value c.in_default.field-0 c.in_default.ensures.status

pub overflow_add-size : goal.overflow_add-size
overflow_add-size c =
    let n = c.number_line-numbered.ensures in
    let x = c.in-Ok.ensures in
    omega (arith, body_most c.loop-k.invariant c.loop-k-test.true c.other_type-to.ensures n.rollover_value n.number_value x.status x.survey c.requires.ppl_most c.body_start-head.ensures)

pub overflow_add-size-in-loop-k : goal.overflow_add-size-in-loop-k
overflow_add-size-in-loop-k c =
    let n = c.number_line-numbered.ensures in
    let x = c.in-Ok.ensures in
    omega (
      arith,
      body_most c.loop-k.invariant c.loop-k-test.true c.other_type-to.ensures n.rollover_value n.number_value x.status x.survey c.requires.ppl_most
          c.body_start-head.ensures,
      c.loop-k.invariant.size_most,
      c.loop-k.invariant.low,
      c.requires.nol_most,
    )

pub overflow_add-at : goal.overflow_add-at
overflow_add-at c =
    let n = c.number_line-numbered.ensures in
    let x = c.in-Ok.ensures in
    omega (arith, used_within c.loop-k.invariant c.loop-k-test.true c.other_type-to.ensures n.rollover_value n.number_value x.status x.survey)

pub loop-k-preserved : goal.loop-k-preserved
loop-k-preserved c =
    let n = c.number_line-numbered.ensures in
    let x = c.in-Ok.ensures in
    survey_next c.loop-k.invariant c.loop-k-test.true c.other_type-to.ensures n.rollover_value n.number_value x.status x.survey
    c.requires.ppl_most c.body_start-head.ensures (grind (arith, common_steps)) c.bytes_to_words.ensures c.or_long-long.ensures x.row_after
