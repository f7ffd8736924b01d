use Rattle.std.proofs.Common.{length, ◌+◌, ◌*◌, ◌≡◌}
use lib.Seq.{sets}
use Rattle.units.specs.Words.{words_to_bytes}
use Rattle.cutting.specs.Pieces.{level_pieces}
use Rattle.encode_body.proofs.Laws.Left.{Left}
use Rattle.encode_body.proofs.run_body.put_run.Given as goal

abbrev pub invariant-loop-left : goal.invariant-loop-left
invariant-loop-left l = (length l.out ≡ length l.initial.out) × Left l.out l.to (level_pieces l.left) (sets l.initial.out l.at (words_to_bytes (level_pieces l.n))) (l.at + 2 * length (level_pieces l.n))

abbrev pub decreases-loop-left : goal.decreases-loop-left
decreases-loop-left l = l.left
