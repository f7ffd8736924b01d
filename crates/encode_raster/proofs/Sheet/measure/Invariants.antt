use Rattle.encode_raster.proofs.Laws.Measuring.{MeasuredAt}
use Rattle.encode_raster.specs.Laws.Answer.{bare}
use Rattle.encode_raster.proofs.Sheet.measure.Given as goal

abbrev pub invariant-loop-k : goal.invariant-loop-k
invariant-loop-k l = MeasuredAt (bare l.self.job l.self.pixels.now) l.size l.long l.k
