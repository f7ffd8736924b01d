use Rattle.std.proofs.Common.{◌≡◌, arith}
use Rattle.moves.proofs.Laws.Picture.{column_pixel}
use Rattle.moves.proofs.Laws.Filling.{Filled, filled_all}
use Rattle.moves.proofs.Source.fill_columns.Goals as goal

pub returns : goal.returns
returns c =
    let s = c.args.self.now in
    let l = c.loop-x in
    let pix = column_pixel s.leftward s.upward s.w s.h s.pixels.now in
    let e : l.x ≡ s.w = omega arith in
    let f : Filled s.w s.h pix s.w s.w 0 c.args.output.now l.output = rw e at l.invariant.2 in
    filled_all s.w s.h pix c.args.output.now l.output l.invariant.1 c.requires f
