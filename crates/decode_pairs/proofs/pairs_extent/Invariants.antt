use Rattle.std.proofs.Common.{length, ◌+◌, ◌*◌, ◌≡◌}
use Rattle.std.specs.Slice.Iter.{chunks_exact_rest, chunks_exact_size}
use Rattle.std.specs.Iterator.Adapters.{enumerate_source, enumerate_count}
use Rattle.codec.specs.PairPixels.{pairs_from, pair_extent}
use Rattle.units.specs.Words.{words}
use Rattle.decode_pairs.proofs.pairs_extent.Given as goal

abbrev pub invariant-loop-i : goal.invariant-loop-i
invariant-loop-i l =
    let i = enumerate_count l.i-iterator in
    let pairs_left = enumerate_source l.i-iterator in
    (chunks_exact_size pairs_left ≡ 4) × (4 * i + length (chunks_exact_rest pairs_left) ≡ length l.rest)
    × (pairs_from l.to_come (words (chunks_exact_rest pairs_left)) (4 * i) ≡ pair_extent l.rest l.p)
