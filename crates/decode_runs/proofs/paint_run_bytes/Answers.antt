use Rattle.std.proofs.Common.{arith}
use Rattle.std.proofs.lemmas.Grind.{common_steps}
use Rattle.units.specs.Words.{words_to_bytes}
use Rattle.slices.proofs.Laws.Painting.{blank_last}
use Rattle.decode_runs.proofs.Laws.Front.{painted_bytes}
use Rattle.decode_runs.proofs.paint_run_bytes.Goals as goal

pub returns : goal.returns
unfolding words_to_bytes
returns c =
    let l = c.loop-word in
    let e = blank_last l.row c.clear.new.out l.at in
    grind (arith, common_steps, painted_bytes)
