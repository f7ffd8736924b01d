use Rattle.std.proofs.Common.{arith}
use Rattle.encode_raster.proofs.Laws.Bounds.{lines_most}
use Rattle.encode_raster.specs.Laws.Answer.{bare}
use Rattle.encode_raster.proofs.Sheet.plan.Goals as goal

pub overflow_add-head : goal.overflow_add-head
overflow_add-head c =
    let s = c.args.self.now in
    omega (arith, c.measure-lines.ensures.size, lines_most (bare s.job s.pixels.now) s.within.ppl_most s.job.nol, s.within.nol_most)
