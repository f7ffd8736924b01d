use Rattle.std.proofs.Common.{refl, ◌∙◌}
use Rattle.refusals.proofs.Laws.Numbers.{numbered}
use Rattle.transcode.proofs.Laws.Whole.{passed, layout_ready, not_planned, header_carried}
use Rattle.transcode.proofs.transcode_sheet.Goals as goal

pub plan_file-requires : goal.plan_file-requires
plan_file-requires c = layout_ready c.requires c.args.row.now refl

pub returns-in_err-size : goal.returns-in_err-size
returns-in_err-size c =
    let both = not_planned c.requires c.args.out.now c.in_err-size.ensures.result_value (numbered _) in
    record { result_value = passed _ _ c.from_residual.ensures.1 ∙ both.0; out_after = both.1 }

pub write_lines-requires : goal.write_lines-requires
write_lines-requires c =
    let x = c.in_ok-size.ensures in
    record {
      ready = layout_ready c.requires c.plan_file.new.row x.row_len_unchanged;
      lines_fit = (header_carried c.requires c.args.out.now x.result_value refl c.other_type.ensures c.carry_header.ensures).rest_fits;
    }

pub returns : goal.returns
returns c =
    let carried = header_carried c.requires c.args.out.now c.in_ok-size.ensures.result_value refl c.other_type.ensures c.carry_header.ensures in
    let both = carried.by_lines c.write_lines.ensures in
    record { result_value = both.0; out_after = both.1 }
