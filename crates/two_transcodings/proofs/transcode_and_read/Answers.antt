use Rattle.std.proofs.Common.{Ok, refl, sym, length-take-le, arith}
use Rattle.two_transcodings.specs.Call.{MovedAndRead}
use Rattle.two_transcodings.specs.declared.MovedReading.{MovedReading}
use Rattle.two_transcodings.proofs.Laws.Call.{fits, same_reading}
use Rattle.two_transcodings.proofs.transcode_and_read.Goals as goal

pub slice_bounds-read_raster-end : goal.slice_bounds-read_raster-end
slice_bounds-read_raster-end c =
    let x = c.in-Ok.ensures in
    omega (arith, fits c.args.file.now c.args.out.now _ x.result_value refl x.out_after)

pub slice_bounds-read_raster-end-in-Ok : goal.slice_bounds-read_raster-end-in-Ok
slice_bounds-read_raster-end-in-Ok c =
    let x = c.in-Ok.ensures in
    sym (length-take-le _ c.transcode-moved.new.out (omega (arith, fits c.args.file.now c.args.out.now _ x.result_value refl x.out_after)))

pub returns-in-Ok : goal.returns-in-Ok
returns-in-Ok c =
    let a = c.args in
    let x = c.in-Ok.ensures in
    let y = c.read_raster-read in
    let r : MovedReading = record { moved = Ok c.in-Ok.size; read = y.result } in
    let both : MovedAndRead a.file.now a.out.now a.pixels.now a.marks.now r c.transcode-moved.new.out y.new.pixels y.new.marks =
    record {
      moved_is = x.result_value;
      out_is = x.out_after;
      unread = λ z. absurd (z refl);
      read_is = λ z. (y.ensures.result_value, (y.ensures.pixels_after, y.ensures.marks_after));
    } in
    record { calls = both; as_before = same_reading _ _ _ _ _ _ _ _ both }
