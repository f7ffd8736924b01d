use Rattle.std.proofs.Common.{◌-◌, ◌≤◌, ◌≡◌, length}
use Rattle.moves.proofs.Laws.Picture.{column_pixel}
use Rattle.moves.proofs.Laws.Filling.{Filled}
use Rattle.moves.proofs.Source.fill_columns.Given as goal

abbrev pub invariant-loop-x : goal.invariant-loop-x
invariant-loop-x l =
    let s = l.self in
    (l.x ≤ s.w) × (length l.output ≡ length l.initial.output)
    × Filled s.w s.h (column_pixel s.leftward s.upward s.w s.h s.pixels.now) l.x l.x 0 l.initial.output l.output

abbrev pub decreases-loop-x : goal.decreases-loop-x
decreases-loop-x l = l.self.w - l.x
