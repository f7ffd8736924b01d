use Rattle.std.proofs.Common.{◌≡◌, arith, rules}
use Rattle.units.specs.Counts.{word_bytes}
use Rattle.layout.specs.Chain.{raster_of}
use Rattle.decode_raster.specs.Laws.Answer.{as_bytes}
use Rattle.decode_raster.proofs.Laws.Lines.{lines_next, lines_lost}
use Rattle.decode_raster_bytes.proofs.read_lines.Goals as goal

pub returns-then-chain : goal.returns-then-chain
returns-then-chain c =
    let a = c.args in
    let l = c.loop-k in
    lines_lost (raster_of a.raster) (as_bytes a.raster.ppl) a.pixels.now a.marks.now l.pixels l.marks l.chain l.k l.invariant (omega arith) c.requires c.if-chain.true
    c.words_to_bytes-width.result.0 (omega arith) c.fill.new.self c.fill-then-chain.new.self (search rules) (search rules)

pub loop-k-preserved : goal.loop-k-preserved
loop-k-preserved c =
    let a = c.args in
    let l = c.loop-k in
    let w : c.words_to_bytes-width.result.0 ≡ word_bytes a.raster.ppl = omega arith in
    rw w
    (lines_next (raster_of a.raster) (as_bytes a.raster.ppl) a.pixels.now a.marks.now l.pixels l.marks l.chain l.k l.invariant (omega arith) c.requires
    c.read_line-chain.result c.read_line-chain.new.row c.read_line-chain.ensures c.mark-in-loop-k.result c.mark-in-loop-k.ensures)
