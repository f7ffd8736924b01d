use Rattle.std.proofs.Common.{◌+◌, ◌∙◌, arith}
use Rattle.packing.proofs.Laws.Lanes.{lanes_masked}
use Rattle.packing.proofs.four.Goals as goal

pub returns : goal.returns
returns c =
    let at = c.args.at in
    let small = c.type_inv.row in
    lanes_masked _ _ _ _ (omega (arith, small at)) (omega (arith, small (at + 1))) (omega (arith, small (at + 2)))
    ∙ rw (c.from.ensures, c.from-2.ensures, c.from-3.ensures, c.from-4.ensures)
