use Rattle.std.proofs.Common.{◌∙◌, ap}
use Rattle.units.specs.Rules.{first}
use Rattle.limits.proofs.Laws.Parts.{refused, allowed}
use Rattle.header.specs.Rejections.{rules_to22, rejection_to22}
use Rattle.layout.specs.Chain.{Raster, sheet_of}
use Rattle.transcode_parts.specs.Rules.{unmoved_rules}
use Rattle.transcode.proofs.file_rejection.Goals as goal

pub returns-in_err-rejection_to_22 : goal.returns-in_err-rejection_to_22
unfolding rejection_to22
returns-in_err-rejection_to_22 c =
    let f = c.args.file.now in
    refused (rules_to22 f) (unmoved_rules (sheet_of f).data_type) _ _ c.from_residual.ensures.1 c.in_err-rejection_to_22.ensures

pub returns : goal.returns
unfolding rejection_to22
returns c =
    let f = c.args.file.now in
    allowed (rules_to22 f) (unmoved_rules (sheet_of f).data_type) tt c.in_ok-rejection_to_22.ensures
    (c.unmoved_type.ensures ∙ ap (λ (r : Raster). first (unmoved_rules r.data_type)) c.sheet_layout-sheet.ensures)
