use Rattle.std.proofs.Common.{◌≡◌}
use Rattle.std.specs.Slice.Iter.{chunks_exact_rest, chunks_exact_size}
use lib.Seq.{sets}
use Rattle.units.specs.Over.{over}
use Rattle.units.specs.Words.{words}
use Rattle.codec.specs.PairPixels.{pair_pixels}
use Rattle.decode_pairs.proofs.paint_pairs.Given as goal

abbrev pub invariant-loop-pair : goal.invariant-loop-pair
invariant-loop-pair l =
    (chunks_exact_size l.pair-iterator ≡ 4)
    × (sets l.row l.at (pair_pixels (words (chunks_exact_rest l.pair-iterator))) ≡ over (pair_pixels (words l.body)) l.initial.row)
