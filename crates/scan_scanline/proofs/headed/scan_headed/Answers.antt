use Rattle.std.proofs.Common.{sym, arith}
use Rattle.std.proofs.lemmas.Result.{err_from_is_err_and}
use Rattle.scan_scanline.proofs.Laws.Headed.{lost_scan, kept_scan}
use Rattle.scan_scanline.proofs.headed.scan_headed.Goals as goal

pub returns-in_err-lost_status : goal.returns-in_err-lost_status
returns-in_err-lost_status c =
    let a = c.args in
    let e = err_from_is_err_and c.from_residual.result c.from_residual.ensures.1 in
    rw (e.1, e.2) (lost_scan a.dtc a.p a.number a.rest.now _ c.in_err-lost_status.ensures)

pub returns : goal.returns
returns c =
    let a = c.args in
    kept_scan a.dtc a.p a.number a.rest.now (sym c.in_ok-lost_status.ensures) _ _ (omega arith) c.kept_status-body.ensures
