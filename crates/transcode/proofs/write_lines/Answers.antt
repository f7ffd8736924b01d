use Rattle.std.proofs.Common.{arith}
use Rattle.transcode.proofs.Laws.Writing.{write_first, line_fits, used_within, write_next}
use Rattle.transcode.proofs.write_lines.Goals as goal

pub loop-k-init : goal.loop-k-init
loop-k-init c = write_first c.args.out.now c.requires.ready

pub write_line-line-requires : goal.write_line-line-requires
write_line-line-requires c =
    let n = c.number_line-numbered.ensures in
    line_fits c.loop-k.invariant c.loop-k-test.true c.requires.lines_fit c.other_type-to.ensures n.rollover_value n.number_value

pub overflow_add-from : goal.overflow_add-from
overflow_add-from c =
    let n = c.number_line-numbered.ensures in
    omega (arith, used_within c.loop-k.invariant c.loop-k-test.true c.requires.lines_fit c.other_type-to.ensures n.rollover_value n.number_value c.write_line-line.ensures.written)

pub loop-k-preserved : goal.loop-k-preserved
loop-k-preserved c =
    let n = c.number_line-numbered.ensures in
    let x = c.write_line-line.ensures in
    write_next c.loop-k.invariant c.loop-k-test.true c.requires.lines_fit c.other_type-to.ensures n.rollover_value n.number_value x.written x.row_after
