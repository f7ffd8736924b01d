use Rattle.std.proofs.Common.{get_or}
use Rattle.moves.specs.Moves.{mirror}
use Rattle.moves.proofs.Laws.Filling.{Stored}
use Rattle.moves.proofs.fill_row.Given as goal

abbrev pub invariant-loop-x : goal.invariant-loop-x
invariant-loop-x l = Stored (λ j. get_or l.line (mirror l.leftward l.n j) 0) l.initial.row l.row l.x
