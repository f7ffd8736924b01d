use Rattle.std.proofs.Common.{length, ◌+◌, ◌*◌, ◌≡◌}
use Rattle.std.specs.Slice.Iter.{chunks_exact_rest, chunks_exact_size}
use Rattle.std.specs.Iterator.Adapters.{enumerate_source, enumerate_count}
use Rattle.codec.specs.RunPixels.{runs_from, run_extent}
use Rattle.units.specs.Words.{words}
use Rattle.decode_runs.proofs.Laws.Front.{level}
use Rattle.decode_runs.proofs.runs_extent.Given as goal

abbrev pub invariant-loop-i : goal.invariant-loop-i
invariant-loop-i l =
    let i = enumerate_count l.i-iterator in
    let words_left = enumerate_source l.i-iterator in
    (chunks_exact_size words_left ≡ 2) × (2 * i + length (chunks_exact_rest words_left) ≡ length l.rest)
    × (runs_from (level l.on) l.to_come (words (chunks_exact_rest words_left)) (2 * i) ≡ run_extent l.rest l.p)
