use Rattle.std.proofs.Common.{arith}
use Rattle.moves.proofs.Laws.Rows.{picture-none, row_more}
use Rattle.moves.proofs.Source.fill_rows.Goals as goal

pub loop-y-init : goal.loop-y-init
loop-y-init c = picture-none _ _ _

pub loop-y-preserved : goal.loop-y-preserved
loop-y-preserved c =
    let s = c.args.self.now in
    let l = c.loop-y in
    row_more s.leftward s.upward s.w s.h l.y s.pixels.now c.args.output.now l.output _ (omega arith) c.requires l.invariant (rw c.mirror_row.ensures.value at c.fill_row.ensures)
