use Rattle.std.proofs.Common.{Ok, refl, sym, length-take-le, arith}
use Rattle.two_transcodings.specs.Call.{BothMoves}
use Rattle.two_transcodings.specs.declared.TwoMoves.{TwoMoves}
use Rattle.two_transcodings.proofs.Laws.Call.{fits, packed_back, runs_back}
use Rattle.two_transcodings.proofs.transcode_twice.Goals as goal

pub slice_bounds-transcode-end : goal.slice_bounds-transcode-end
slice_bounds-transcode-end c =
    let x = c.in-Ok.ensures in
    fits c.args.file.now c.args.between.now _ x.result_value refl x.out_after

pub slice_bounds-transcode-end-in-Ok : goal.slice_bounds-transcode-end-in-Ok
slice_bounds-transcode-end-in-Ok c =
    let x = c.in-Ok.ensures in
    sym (length-take-le c.in-Ok.size.0 c.transcode-there.new.out (fits c.args.file.now c.args.between.now _ x.result_value refl x.out_after))

pub returns-in-Ok : goal.returns-in-Ok
returns-in-Ok c =
    let a = c.args in
    let x = c.in-Ok.ensures in
    let y = c.transcode-back in
    let r : TwoMoves = record { there = Ok c.in-Ok.size; back = y.result } in
    let both : BothMoves a.file.now a.between.now a.out.now r c.transcode-there.new.out y.new.out =
    record {
      there_is = x.result_value;
      between_is = x.out_after;
      unmoved = λ z. absurd (z refl);
      back_is = λ z. (y.ensures.result_value, y.ensures.out_after);
    } in
    record {
      calls = both;
      packed = λ there back ends one. packed_back _ _ _ _ _ _ both there back (λ i. omega (arith, c.type_inv.file i)) ends one;
      runs = λ there back ends nine bodies. runs_back _ _ _ _ _ _ both there back (λ i. omega (arith, c.type_inv.file i)) ends nine bodies;
    }
