use Rattle.std.proofs.Common.{arith}
use Rattle.moves.proofs.Laws.Filling.{stored_all}
use Rattle.moves.proofs.Source.fill_run.Goals as goal

pub returns : goal.returns
returns c = let l = c.loop-j in stored_all _ _ l.run l.j l.invariant (omega arith)
