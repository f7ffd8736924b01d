use Rattle.std.proofs.Common.{ℕ, ◌≡◌, List, length}
use Rattle.moves.proofs.Laws.Picture.{column_pixel}
use Rattle.moves.proofs.Laws.Filling.{Filled}
use Rattle.moves.proofs.Source.fill_band.Given as goal

abbrev pub invariant-loop-y : goal.invariant-loop-y
invariant-loop-y l =
    let s = l.self in
    let pix = column_pixel s.leftward s.upward s.w s.h s.pixels.now in
    (length l.output ≡ length l.initial.output)
    × ((old : List ℕ) → Filled s.w s.h pix l.x l.x 0 old l.initial.output → Filled s.w s.h pix l.x l.e l.y old l.output)
