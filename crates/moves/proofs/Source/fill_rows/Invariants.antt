use Rattle.std.proofs.Common.{◌*◌, ◌≡◌, ◌++◌, drop}
use Rattle.moves.proofs.Laws.Picture.{row_pixel, picture}
use Rattle.moves.proofs.Source.fill_rows.Given as goal

abbrev pub invariant-loop-y : goal.invariant-loop-y
invariant-loop-y l =
    let s = l.self in
    l.output ≡ picture s.w l.y (row_pixel s.leftward s.upward s.w s.h s.pixels.now) ++ drop (l.y * s.w) l.initial.output
