use Rattle.layout.specs.Chain.{raster_of}
use Rattle.decode_raster.specs.Laws.Answer.{as_bytes}
use Rattle.decode_raster.proofs.Laws.Lines.{LinesAt}
use Rattle.decode_raster_bytes.proofs.read_lines.Given as goal

abbrev pub invariant-loop-k : goal.invariant-loop-k
invariant-loop-k l = LinesAt (raster_of l.raster) (as_bytes l.raster.ppl) l.fn.pixels l.fn.marks l.pixels l.marks l.chain l.k
