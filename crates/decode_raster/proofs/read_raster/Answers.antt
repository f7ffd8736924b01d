use Rattle.std.proofs.Common.{◌∙◌, refl}
use Rattle.std.proofs.lemmas.Result.{err_from_is_err_and}
use Rattle.refusals.proofs.Laws.Numbers.{numbered}
use Rattle.decode_raster.proofs.Laws.Whole.{rejected_whole, has_room, read_whole}
use Rattle.decode_raster.proofs.read_raster.Goals as goal

pub returns-in_err-raster_rejection : goal.returns-in_err-raster_rejection
returns-in_err-raster_rejection c =
    let a = c.args in
    let e = err_from_is_err_and c.from_residual.result c.from_residual.ensures.1 in
    let x = rejected_whole a.file.now a.pixels.now a.marks.now c.in_err-raster_rejection.ensures (numbered _) in
    record { result_value = rw (e.1, e.2) x.0; pixels_after = x.1.0; marks_after = x.1.1 }

pub read_lines-chain-requires : goal.read_lines-chain-requires
read_lines-chain-requires c =
    let a = c.args in
    has_room a.file.now a.pixels.now a.marks.now c.in_ok-raster_rejection.ensures refl c.sheet_layout-sheet.result c.sheet_layout-sheet.ensures

pub returns : goal.returns
returns c =
    let a = c.args in
    let d = c.read_lines-chain in
    let x = read_whole a.file.now a.pixels.now a.marks.now c.in_ok-raster_rejection.ensures refl c.sheet_layout-sheet.result c.sheet_layout-sheet.ensures d.result d.new.pixels d.new.marks d.ensures in
    record { result_value = c.reading.ensures ∙ x.0; pixels_after = x.1.0; marks_after = x.1.1 }
