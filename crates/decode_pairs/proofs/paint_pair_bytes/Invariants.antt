use Rattle.std.proofs.Common.{length, ◌≤◌, ◌≡◌}
use Rattle.std.specs.Slice.Iter.{chunks_exact_rest, chunks_exact_size}
use lib.Seq.{sets}
use Rattle.units.specs.Over.{over, zeros}
use Rattle.units.specs.Words.{words, words_to_bytes}
use Rattle.slices.proofs.Laws.Painting.{blank_from}
use Rattle.codec.specs.PairPixels.{pair_pixels}
use Rattle.decode_pairs.proofs.paint_pair_bytes.Given as goal

abbrev pub invariant-loop-pair : goal.invariant-loop-pair
invariant-loop-pair l =
    (chunks_exact_size l.pair-iterator ≡ 4) × (l.at ≤ length l.row)
    × (sets (blank_from l.at l.row) l.at (words_to_bytes (pair_pixels (words (chunks_exact_rest l.pair-iterator))))
    ≡ over (words_to_bytes (pair_pixels (words l.body))) (zeros (length l.initial.row)))
