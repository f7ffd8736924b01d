use Rattle.std.proofs.Common.{length, ◌+◌, ◌*◌, ◌≡◌}
use lib.Seq.{sets}
use Rattle.units.specs.Words.{words_to_bytes}
use Rattle.cutting.specs.Pieces.{value_pieces}
use Rattle.encode_body.proofs.Laws.Left.{Left}
use Rattle.encode_body.proofs.pair_body.put_pairs.Given as goal

abbrev pub invariant-loop-left : goal.invariant-loop-left
invariant-loop-left l =
    (length l.out ≡ length l.initial.out) ×
    Left l.out l.to (value_pieces l.v l.left) (sets l.initial.out l.at (words_to_bytes (value_pieces l.v l.n))) (l.at + 2 * length (value_pieces l.v l.n))

abbrev pub decreases-loop-left : goal.decreases-loop-left
decreases-loop-left l = l.left
