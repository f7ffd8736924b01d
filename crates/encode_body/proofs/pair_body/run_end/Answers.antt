use Rattle.std.proofs.Common.{arith}
use Rattle.codec.proofs.Laws.Leading.{leading_within, leading_more, leading_stop, leading_end}
use Rattle.encode_body.proofs.pair_body.run_end.Goals as goal

pub returns-then-row-i : goal.returns-then-row-i
returns-then-row-i c =
    let l = c.loop-i in
    let a = c.args in
    omega (arith, l.invariant, leading_stop a.row.now l.i a.v c.loop-i-test.true c.if-row-i.true)

pub loop-i-preserved : goal.loop-i-preserved
loop-i-preserved c =
    let l = c.loop-i in
    let a = c.args in
    omega (arith, l.invariant, leading_more a.row.now l.i a.v c.loop-i-test.true c.if-row-i.false)

pub returns : goal.returns
returns c =
    let l = c.loop-i in
    let a = c.args in
    omega (arith, l.invariant, leading_within a.row.now a.from a.v c.requires, leading_end a.row.now l.i a.v c.loop-i-test.false)
