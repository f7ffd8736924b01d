use Rattle.std.proofs.Common.{◌∙◌}
use Rattle.refusals.proofs.Laws.Numbers.{numbered}
use Rattle.transcode.proofs.Laws.Whole.{passed, by_file}
use Rattle.transcode.proofs.transcode_by.Goals as goal

pub returns-in_err-file_rejection : goal.returns-in_err-file_rejection
returns-in_err-file_rejection c =
    let a = c.args in
    let both = by_file a.file.now a.out.now c.in_err-file_rejection.ensures (numbered _) in
    record { result_value = passed _ _ c.from_residual.ensures.1 ∙ both.0; out_after = both.1 }
