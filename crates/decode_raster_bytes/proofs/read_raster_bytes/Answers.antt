use Rattle.std.proofs.Common.{◌∙◌, refl}
use Rattle.std.proofs.lemmas.Result.{err_from_is_err_and}
use Rattle.refusals.proofs.Laws.Numbers.{numbered}
use Rattle.decode_raster.proofs.Laws.Whole.{rejected_bytes, has_room_bytes, read-whole-bytes}
use Rattle.decode_raster_bytes.proofs.read_raster_bytes.Goals as goal

pub returns-in_err-raster_rejection : goal.returns-in_err-raster_rejection
returns-in_err-raster_rejection c =
    let a = c.args in
    let e = err_from_is_err_and c.from_residual.result c.from_residual.ensures.1 in
    let x = rejected_bytes a.file.now a.pixels.now a.marks.now (rw c.bytes_to_words-room.ensures at c.in_err-raster_rejection.ensures) (numbered _) in
    record { result_value = rw (e.1, e.2) x.0; pixels_after = x.1.0; marks_after = x.1.1 }

pub read_lines-chain-requires : goal.read_lines-chain-requires
read_lines-chain-requires c =
    let a = c.args in
    let sheet = c.sheet_layout-sheet in
    has_room_bytes a.file.now a.pixels.now a.marks.now (rw c.bytes_to_words-room.ensures at c.in_ok-raster_rejection.ensures) refl sheet.result sheet.ensures

pub returns : goal.returns
returns c =
    let a = c.args in
    let sheet = c.sheet_layout-sheet in
    let d = c.read_lines-chain in
    let x = read-whole-bytes a.file.now a.pixels.now a.marks.now (rw c.bytes_to_words-room.ensures at c.in_ok-raster_rejection.ensures) refl sheet.result sheet.ensures d.result
    d.new.pixels d.new.marks d.ensures in
    record { result_value = c.reading.ensures ∙ x.0; pixels_after = x.1.0; marks_after = x.1.1 }
