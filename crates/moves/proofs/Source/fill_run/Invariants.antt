use Rattle.std.proofs.Common.{◌+◌, ◌*◌, get_or}
use Rattle.moves.specs.Moves.{mirror}
use Rattle.moves.proofs.Laws.Filling.{Stored}
use Rattle.moves.proofs.Source.fill_run.Given as goal

abbrev pub invariant-loop-j : goal.invariant-loop-j
invariant-loop-j l = Stored (λ k. get_or l.pixels (mirror l.leftward l.w (l.x + k) * l.h + l.i) 0) l.initial.run l.run l.j
