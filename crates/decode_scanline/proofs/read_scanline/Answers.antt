use Rattle.std.proofs.Common.{◌≡◌, sym, ◌∙◌, refl, length, arith, rules}
use Rattle.units.specs.Over.{zeros}
use Rattle.layout.specs.Scanline.{reading_of}
use Rattle.layout.proofs.Laws.Line.{used_within}
use Rattle.decode_scanline.proofs.Laws.Painted.{good_read, blank_read, blank_lost, painted_line, line-of}
use Rattle.decode_scanline.proofs.read_scanline.Goals as goal
use Rattle.decode_scanline.proofs.read_scanline.Goals.{in_default-via-in-Ok+else-eq, in_default-via-in_default}

pub returns-in_default : goal.returns-in_default
returns-in_default c =
    let a = c.args in
    let f : c.fill.new.self ≡ zeros (length a.row.now) = search rules in
    let b : (reading_of a.scn a.dtc (length a.row.now) a.number a.rest.now).row ≡ zeros (length a.row.now) =
    elim c.in_default.branch [
      | in_default-via-in-Ok+else-eq w ↦ blank_read a.scn a.dtc (length a.row.now) a.number a.rest.now _ c.scan_scanline-read.ensures _ w.in-Ok.is (search rules)
      | in_default-via-in_default w ↦ blank_lost a.scn a.dtc (length a.row.now) a.number a.rest.now _ c.scan_scanline-read.ensures _ w.in_default.is
    ] in
    line-of c.scan_scanline-read.ensures (f ∙ sym b)

pub slice_bounds-paint_from-count : goal.slice_bounds-paint_from-count
slice_bounds-paint_from-count c =
    let a = c.args in
    let good = good_read a.scn a.dtc (length a.row.now) a.number a.rest.now _ c.scan_scanline-read.ensures _ c.in-Ok.is (search rules) c.body_start-from.ensures c.first_column-column.ensures in
    rw c.in-Ok.line-is good.starts

pub slice_bounds-paint_from-start : goal.slice_bounds-paint_from-start
slice_bounds-paint_from-start c =
    let a = c.args in
    let good = good_read a.scn a.dtc (length a.row.now) a.number a.rest.now _ c.scan_scanline-read.ensures _ c.in-Ok.is (search rules) c.body_start-from.ensures c.first_column-column.ensures in
    rw c.in-Ok.line-is good.starts

pub slice_bounds-paint_from-end : goal.slice_bounds-paint_from-end
slice_bounds-paint_from-end c =
    let a = c.args in
    rw c.in-Ok.line-is (omega (arith, (rw c.in-Ok.is at c.scan_scanline-read.ensures).used, used_within a.scn a.dtc (length a.row.now) a.rest.now))

pub paint_from-requires : goal.paint_from-requires
paint_from-requires c =
    let a = c.args in
    let good = good_read a.scn a.dtc (length a.row.now) a.number a.rest.now _ c.scan_scanline-read.ensures _ c.in-Ok.is (search rules) c.body_start-from.ensures c.first_column-column.ensures in
    good.fits

pub returns-in-Ok : goal.returns-in-Ok
returns-in-Ok c =
    let a = c.args in
    let good = good_read a.scn a.dtc (length a.row.now) a.number a.rest.now _ c.scan_scanline-read.ensures _ c.in-Ok.is (search rules) c.body_start-from.ensures c.first_column-column.ensures in
    line-of c.scan_scanline-read.ensures (rw c.in-Ok.line-is at c.paint_from.ensures ∙ painted_line good a.row.now refl)
