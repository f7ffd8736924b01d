use Rattle.std.proofs.Common.{◌*◌, ◌≤◌, length, ◌≡◌}
use Rattle.encode_body.proofs.Laws.Left.{Left}
use Rattle.codec.proofs.Laws.RunWriting.{words_from}
use Rattle.codec.specs.RunPixels.{run_body, run_words}
use Rattle.units.specs.Over.{over}
use Rattle.encode_body.proofs.run_body.write_runs.Given as goal

abbrev pub invariant-loop-rest : goal.invariant-loop-rest
invariant-loop-rest l =
    (length l.rest ≤ length l.row) ×
    (l.level ≤ 1) ×
    (length l.out ≡ length l.initial.out) ×
    Left l.out l.at (words_from l.rest l.level 0) (over (run_body l.row) l.fn.out) (2 * length (run_words l.row))

abbrev pub decreases-loop-rest : goal.decreases-loop-rest
decreases-loop-rest l = length l.rest
