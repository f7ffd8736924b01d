use Rattle.std.proofs.Common.{◌≤◌, ◌≡◌}
use Rattle.std.specs.Slice.Iter.{chunks_exact_rest, chunks_exact_size}
use lib.Seq.{sets}
use Rattle.units.specs.Over.{over}
use Rattle.units.specs.Words.{words}
use Rattle.codec.specs.RunPixels.{run_pixels}
use Rattle.decode_runs.proofs.paint_runs.Given as goal

abbrev pub invariant-loop-word : goal.invariant-loop-word
invariant-loop-word l =
    (chunks_exact_size l.word-iterator ≡ 2) × (l.level ≤ 1)
    × (sets l.row l.at (run_pixels l.level (words (chunks_exact_rest l.word-iterator))) ≡ over (run_pixels 0 (words l.body)) l.initial.row)
