use Rattle.std.proofs.Common.{arith}
use Rattle.layout.specs.Chain.{raster_of}
use Rattle.decode_raster.specs.Laws.Answer.{as_pixels}
use Rattle.decode_raster.proofs.Laws.Lines.{lines_first, lines_next}
use Rattle.decode_raster.proofs.read_lines.Goals as goal

pub loop-k-init : goal.loop-k-init
loop-k-init c = rw c.good-chain.ensures (lines_first (raster_of c.args.raster) (as_pixels c.args.raster.ppl) c.args.pixels.now c.args.marks.now)

pub loop-k-preserved : goal.loop-k-preserved
loop-k-preserved c =
    let a = c.args in
    let l = c.loop-k in
    lines_next (raster_of a.raster) (as_pixels a.raster.ppl) a.pixels.now a.marks.now l.pixels l.marks l.chain l.k l.invariant (omega arith) c.requires
    c.read_line-chain.result c.read_line-chain.new.row c.read_line-chain.ensures c.mark.result c.mark.ensures
