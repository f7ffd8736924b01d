use Rattle.std.proofs.Common.{◌+◌, ◌≡◌}
use Rattle.std.specs.Slice.Iter.{chunks_exact_rest, chunks_exact_size}
use Rattle.codec.specs.RunPixels.{run_total}
use Rattle.units.specs.Words.{words}
use Rattle.decode_runs.proofs.runs_status.Given as goal

abbrev pub invariant-loop-word : goal.invariant-loop-word
invariant-loop-word l =
    (chunks_exact_size l.word-iterator ≡ 2) × (l.left + run_total (words l.body) ≡ l.p + run_total (words (chunks_exact_rest l.word-iterator)))
