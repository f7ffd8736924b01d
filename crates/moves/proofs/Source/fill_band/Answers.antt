use Rattle.std.proofs.Common.{◌*◌, ◌≤◌, ◌<◌, ◌∙◌, arith, length}
use Rattle.moves.proofs.Laws.Picture.{column_pixel}
use Rattle.moves.proofs.Laws.Filling.{run-kept, run_more}
use Rattle.moves.proofs.Source.fill_band.Goals as goal

pub loop-y-preserved : goal.loop-y-preserved
loop-y-preserved c =
    let a = c.args in
    let s = a.self.now in
    let l = c.loop-y in
    let pix = column_pixel s.leftward s.upward s.w s.h s.pixels.now in
    let row : l.y < s.h = omega arith in
    let size : s.h * s.w ≤ length l.output = omega (arith, c.requires.output_room, l.invariant.0) in
    let run_is = rw c.mirror.ensures.value at c.fill_run.ensures in (
      run-kept s.w s.h pix l.output a.x a.e l.y l.output _ row c.requires.x_le_e.0 c.requires.x_le_e.1 size run_is ∙ l.invariant.0,
      λ old f. run_more s.w s.h pix old a.x a.e l.y l.output _ row c.requires.x_le_e.0 c.requires.x_le_e.1 size run_is (l.invariant.1 old f),
    )
