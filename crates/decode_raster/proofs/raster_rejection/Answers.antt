use Rattle.std.proofs.Common.{refl}
use Rattle.std.proofs.lemmas.Result.{err_from_is_err_and}
use Rattle.refusals.proofs.Laws.Numbers.{numbered}
use Rattle.decode_raster.proofs.Laws.Whole.{by_file, by_pixels, by_marks, by_none}
use Rattle.decode_raster.proofs.raster_rejection.Goals as goal

pub returns-in_err-rejection_to_22 : goal.returns-in_err-rejection_to_22
returns-in_err-rejection_to_22 c =
    let a = c.args in
    let e = err_from_is_err_and c.from_residual.result c.from_residual.ensures.1 in
    rw (e.1, e.2) (by_file a.file.now a.pixels a.marks c.in_err-rejection_to_22.ensures (numbered _))

pub returns-then-pixels-nol : goal.returns-then-pixels-nol
returns-then-pixels-nol c =
    let a = c.args in
    by_pixels a.file.now a.pixels a.marks c.in_ok-rejection_to_22.ensures refl c.sheet_layout-sheet.result c.sheet_layout-sheet.ensures c.if-pixels-nol.true

pub returns-then-marks-nol : goal.returns-then-marks-nol
returns-then-marks-nol c =
    let a = c.args in
    by_marks a.file.now a.pixels a.marks c.in_ok-rejection_to_22.ensures refl c.sheet_layout-sheet.result c.sheet_layout-sheet.ensures c.if-pixels-nol.false c.if-marks-nol.true

pub returns : goal.returns
returns c =
    let a = c.args in
    by_none a.file.now a.pixels a.marks c.in_ok-rejection_to_22.ensures refl c.sheet_layout-sheet.result c.sheet_layout-sheet.ensures c.if-pixels-nol.false c.if-marks-nol.false
