use Rattle.std.proofs.Common.{length-take-le, length, arith, Ok, refl, sym, ◌∙◌, ap}
use Rattle.refusals.proofs.Laws.Numbers.{numbered}
use Rattle.encode_answer.specs.Answer.{write_numbers}
use Rattle.encode_raster.specs.Answer.{picture}
use Rattle.encode_raster.proofs.Laws.Call.{number_is, size_fits, length_after}
use Rattle.round_trip.proofs.Laws.Call.{given_back}
use Rattle.round_trip.proofs.write_and_read.Goals as goal

pub slice_bounds-read_raster-end : goal.slice_bounds-read_raster-end
slice_bounds-read_raster-end c =
    let a = c.args in
    let w = c.in-Ok.ensures in
    let i = picture a.dtc a.ppl a.nol a.slo a.scn a.drs a.table.now a.pixels.now in
    omega (arith, size_fits i (length a.out.now) (write_numbers (Ok c.in-Ok.size)) w.result_value refl, ap length w.out_after ∙ length_after i a.out.now)

pub slice_bounds-read_raster-end-in-Ok : goal.slice_bounds-read_raster-end-in-Ok
slice_bounds-read_raster-end-in-Ok c =
    let a = c.args in
    let w = c.in-Ok.ensures in
    let i = picture a.dtc a.ppl a.nol a.slo a.scn a.drs a.table.now a.pixels.now in
    sym (length-take-le _ c.write_raster.new.out (omega (arith, size_fits i (length a.out.now) (write_numbers (Ok c.in-Ok.size)) w.result_value refl, ap length w.out_after ∙ length_after i a.out.now)))

pub returns-in-Ok-clause-read_back : goal.returns-in-Ok-clause-read_back
returns-in-Ok-clause-read_back c =
    let a = c.args in
    let w = c.in-Ok.ensures in
    let d = c.read_raster.ensures in
    given_back _ a.out.now a.back.now a.marks.now _ c.write_raster.new.out _ _ c.ranges.drs.fits
    (record {
      wrote = w.result_value;
      out_is = w.out_after;
      unread = λ n. absurd (n refl);
      read_is = λ n. (d.result_value, (d.pixels_after, d.marks_after));
    })

pub returns-in-Err-clause-read_back : goal.returns-in-Err-clause-read_back
returns-in-Err-clause-read_back c =
    let a = c.args in
    let i = picture a.dtc a.ppl a.nol a.slo a.scn a.drs a.table.now a.pixels.now in
    λ ok px mk. absurd (numbered c.in-Err.rejection (number_is i (length a.out.now) _ c.in-Err.ensures.result_value ∙ ok))
