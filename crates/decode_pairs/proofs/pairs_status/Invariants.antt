use Rattle.std.proofs.Common.{◌+◌, ◌≡◌}
use Rattle.std.specs.Slice.Iter.{chunks_exact_rest, chunks_exact_size}
use Rattle.codec.specs.PairPixels.{pair_total}
use Rattle.units.specs.Words.{words}
use Rattle.decode_pairs.proofs.pairs_status.Given as goal

abbrev pub invariant-loop-pair : goal.invariant-loop-pair
invariant-loop-pair l =
    (chunks_exact_size l.pair-iterator ≡ 4) × (l.left + pair_total (words l.body) ≡ l.p + pair_total (words (chunks_exact_rest l.pair-iterator)))
