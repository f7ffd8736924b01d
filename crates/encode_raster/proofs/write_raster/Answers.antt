use Rattle.std.proofs.Common.{◌∙◌, ap, refl, Err, arith}
use Rattle.std.proofs.lemmas.Result.{err_from_is_err_and}
use Rattle.refusals.proofs.Laws.Numbers.{numbered}
use Rattle.codec.proofs.Laws.Table.{type_most}
use Rattle.encode_answer.specs.Answer.{write_numbers}
use Rattle.encode_raster.proofs.Laws.Whole.{by_field, within, by_plan, ready}
use Rattle.encode_raster.specs.Laws.Answer.{job_of}
use Rattle.encode_raster.proofs.write_raster.Goals as goal

pub returns-in_err-field_rejection : goal.returns-in_err-field_rejection
returns-in_err-field_rejection c =
    let a = c.args in
    let job = job_of a.dtc a.ppl a.nol a.slo a.scn a.drs in
    let both = by_field job a.table.now a.pixels.now a.out.now _ c.in_err-field_rejection.ensures in
    let e = err_from_is_err_and c.from_residual.result c.from_residual.ensures.1 in
    record { result_value = ap write_numbers (e.1 ∙ ap Err e.2) ∙ both.0; out_after = both.1 }

pub overflow_cast-job : goal.overflow_cast-job
overflow_cast-job c =
    let a = c.args in
    let job = job_of a.dtc a.ppl a.nol a.slo a.scn a.drs in
    omega (arith, type_most _ (within job a.table.now a.pixels.now a.out.now c.in_ok-field_rejection.ensures).fields.known)

pub returns-in_err-size : goal.returns-in_err-size
returns-in_err-size c =
    let a = c.args in
    let job = job_of a.dtc a.ppl a.nol a.slo a.scn a.drs in
    let both = by_plan job a.table.now a.pixels.now a.out.now c.in_ok-field_rejection.ensures c.header_size.ensures c.in_err-size.ensures (numbered _) in
    let e = err_from_is_err_and c.from_residual-in_err-size.result c.from_residual-in_err-size.ensures.1 in
    record { result_value = ap write_numbers (e.1 ∙ ap Err e.2) ∙ both.0; out_after = both.1 }

pub returns : goal.returns
returns c =
    let a = c.args in
    let w = c.write_header-start.ensures in
    let job = job_of a.dtc a.ppl a.nol a.slo a.scn a.drs in
    let behind = ready job a.table.now a.pixels.now a.out.now c.in_ok-field_rejection.ensures c.header_size.ensures c.in_ok-size.ensures refl w.result_value w.out_after in
    let both = behind.by_lines c.write_lines.ensures in
    record { result_value = both.0; out_after = both.1 }
