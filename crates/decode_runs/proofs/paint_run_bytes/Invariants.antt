use Rattle.std.proofs.Common.{length, ◌≤◌, ◌≡◌}
use Rattle.std.specs.Slice.Iter.{chunks_exact_rest, chunks_exact_size}
use lib.Seq.{sets}
use Rattle.units.specs.Over.{over, zeros}
use Rattle.units.specs.Words.{words, words_to_bytes}
use Rattle.slices.proofs.Laws.Painting.{blank_from}
use Rattle.codec.specs.RunPixels.{run_pixels}
use Rattle.decode_runs.proofs.paint_run_bytes.Given as goal

abbrev pub invariant-loop-word : goal.invariant-loop-word
invariant-loop-word l =
    (chunks_exact_size l.word-iterator ≡ 2) × (l.level ≤ 1) × (l.at ≤ length l.row)
    × (sets (blank_from l.at l.row) l.at (words_to_bytes (run_pixels l.level (words (chunks_exact_rest l.word-iterator)))) ≡ over (words_to_bytes (run_pixels 0 (words l.body))) (zeros (length l.initial.row)))
