use Rattle.std.proofs.Common.{arith}
use Rattle.encode_raster.proofs.Laws.Measuring.{measure_first, measure_next, measure_fits}
use Rattle.encode_raster.specs.Laws.Answer.{bare}
use Rattle.encode_raster.proofs.Sheet.measure.Goals as goal

pub loop-k-init : goal.loop-k-init
loop-k-init c = let s = c.args.self.now in measure_first (bare s.job s.pixels.now)

pub overflow_add-size : goal.overflow_add-size
overflow_add-size c =
    let s = c.args.self.now in
    let l = c.loop-k in
    omega (arith, measure_fits (bare s.job s.pixels.now) l.size l.long l.k l.invariant (omega arith) s.within.ppl_most s.within.nol_most c.line_head-head.ensures (rw c.row.ensures at c.body_size-body.ensures))

pub overflow_add-size-in-loop-k : goal.overflow_add-size-in-loop-k
overflow_add-size-in-loop-k c =
    let s = c.args.self.now in
    let l = c.loop-k in
    omega (arith, measure_fits (bare s.job s.pixels.now) l.size l.long l.k l.invariant (omega arith) s.within.ppl_most s.within.nol_most c.line_head-head.ensures (rw c.row.ensures at c.body_size-body.ensures))

pub loop-k-preserved : goal.loop-k-preserved
loop-k-preserved c =
    let s = c.args.self.now in
    let l = c.loop-k in
    measure_next (bare s.job s.pixels.now) l.size l.long l.k l.invariant (omega arith)
    c.line_head-head.ensures (rw c.row.ensures at c.body_size-body.ensures) c.bytes_to_words.ensures c.or_long-long.ensures
