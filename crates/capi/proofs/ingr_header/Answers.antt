use Rattle.std.proofs.Common.{◌∙◌, ap, arith}
use Rattle.capi.specs.Calls.{header_size, header_call}
use Rattle.capi.proofs.Laws.Outcome.{finished}
use Rattle.capi.proofs.ingr_header.Goals as goal

pub returns-clause-answer_after : goal.returns-clause-answer_after
returns-clause-answer_after c =
    let s = c.store.ensures in
    (finished header_size c.args.answer.now (omega arith) (c.of_header.ensures ∙ ap header_call c.read_header.ensures) s.value s.answer_after).1
