use Rattle.std.proofs.Common.{◌≡◌, ◌∙◌, arith, rules, length, ◌≤◌, length-take-le, take}
use Rattle.units.specs.Counts.{word_bytes}
use Rattle.units.specs.Over.{zeros}
use Rattle.layout.specs.Scanline.{reading_of}
use Rattle.layout.proofs.Laws.Line.{used_within}
use Rattle.decode_scanline.proofs.Laws.Painted.{good_read, blank_read, blank_lost, painted_bytes, cleared_bytes}
use Rattle.decode_scanline.proofs.read_scanline_bytes.Goals as goal
use Rattle.decode_scanline.proofs.read_scanline_bytes.Goals.{in_default-via-in-Ok+else-eq, in_default-via-in_default}

pub returns-in_default-clause-row_after : goal.returns-in_default-clause-row_after
returns-in_default-clause-row_after c =
    let a = c.args in
    let p = c.bytes_to_words-p.result.0 in
    let n = c.words_to_bytes-end.result.0 in
    let held : length a.row.now ≤ 18446744073709551615 = omega arith in
    let end : n ≡ word_bytes p = omega (arith, c.bytes_to_words-p.ensures) in
    let fits : n ≤ length a.row.now = omega (arith, c.bytes_to_words-p.ensures) in
    let f : c.fill.new.self ≡ zeros (length (take n a.row.now)) = search rules in
    let b : (reading_of a.scn a.dtc p a.number a.rest.now).row ≡ zeros p =
    elim c.in_default.branch [
      | in_default-via-in-Ok+else-eq w ↦ blank_read a.scn a.dtc p a.number a.rest.now _ c.scan_scanline-read.ensures _ w.in-Ok.is (search rules)
      | in_default-via-in_default w ↦ blank_lost a.scn a.dtc p a.number a.rest.now _ c.scan_scanline-read.ensures _ w.in_default.is
    ] in
    rw (← c.bytes_to_words-p.ensures, f, length-take-le n a.row.now fits) (cleared_bytes p n a.row.now (reading_of a.scn a.dtc p a.number a.rest.now).row end fits b)

pub slice_bounds-paint_bytes_from-count : goal.slice_bounds-paint_bytes_from-count
slice_bounds-paint_bytes_from-count c =
    let a = c.args in
    let good = good_read a.scn a.dtc c.bytes_to_words-p.result.0 a.number a.rest.now _ c.scan_scanline-read.ensures _ c.in-Ok.is (search rules) c.body_start-from.ensures c.first_column-column.ensures in
    rw c.in-Ok.line-is good.starts

pub slice_bounds-paint_bytes_from-start : goal.slice_bounds-paint_bytes_from-start
slice_bounds-paint_bytes_from-start c =
    let a = c.args in
    let good = good_read a.scn a.dtc c.bytes_to_words-p.result.0 a.number a.rest.now _ c.scan_scanline-read.ensures _ c.in-Ok.is (search rules) c.body_start-from.ensures c.first_column-column.ensures in
    rw c.in-Ok.line-is good.starts

pub slice_bounds-paint_bytes_from-end : goal.slice_bounds-paint_bytes_from-end
slice_bounds-paint_bytes_from-end c =
    let a = c.args in
    rw c.in-Ok.line-is (omega (arith, (rw c.in-Ok.is at c.scan_scanline-read.ensures).used, used_within a.scn a.dtc c.bytes_to_words-p.result.0 a.rest.now))

pub paint_bytes_from-requires-clause-column_le_p : goal.paint_bytes_from-requires-clause-column_le_p
paint_bytes_from-requires-clause-column_le_p c =
    let a = c.args in
    let good = good_read a.scn a.dtc c.bytes_to_words-p.result.0 a.number a.rest.now _ c.scan_scanline-read.ensures _ c.in-Ok.is (search rules) c.body_start-from.ensures c.first_column-column.ensures in
    good.fits

pub returns-in-Ok-clause-row_after : goal.returns-in-Ok-clause-row_after
returns-in-Ok-clause-row_after c =
    let a = c.args in
    let p = c.bytes_to_words-p.result.0 in
    let good = good_read a.scn a.dtc p a.number a.rest.now _ c.scan_scanline-read.ensures _ c.in-Ok.is (search rules) c.body_start-from.ensures c.first_column-column.ensures in
    let room : word_bytes p ≤ length a.row.now = omega (arith, c.bytes_to_words-p.ensures) in
    rw (← c.bytes_to_words-p.ensures) (rw c.in-Ok.line-is at c.paint_bytes_from.ensures ∙ painted_bytes good a.row.now room)
