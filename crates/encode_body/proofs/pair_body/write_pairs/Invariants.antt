use Rattle.std.proofs.Common.{length, drop, ◌-◌, ◌*◌, ◌≤◌, ◌≡◌}
use Rattle.codec.specs.PairPixels.{pair_body, pair_words}
use Rattle.encode_body.proofs.Laws.Left.{Left}
use Rattle.units.specs.Over.{over}
use Rattle.encode_body.proofs.pair_body.write_pairs.Given as goal

abbrev pub invariant-loop-i : goal.invariant-loop-i
invariant-loop-i l =
    (l.i ≤ length l.row) ×
    (length l.out ≡ length l.initial.out) ×
    Left l.out l.at (pair_words (drop l.i l.row)) (over (pair_body l.row) l.initial.out) (2 * length (pair_words l.row))

abbrev pub decreases-loop-i : goal.decreases-loop-i
decreases-loop-i l = length l.row - l.i
