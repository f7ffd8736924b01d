use Rattle.std.proofs.Common.{◌≡◌, ◌∙◌, ap, arith, rules, length}
use Rattle.units.specs.Over.{zeros}
use Rattle.layout.specs.Chain.{raster_of, one_if_good}
use Rattle.layout.proofs.Laws.Chain.{good_most}
use Rattle.decode_scanline.proofs.Laws.Painted.{scan-of}
use Rattle.decode_raster.specs.Laws.Answer.{as_pixels}
use Rattle.decode_raster.proofs.Laws.Steps.{at_within, next_within, one_most, step-lost, step-line, step_fault}
use Rattle.decode_raster.proofs.read_line.Goals as goal

pub returns-then-chain : goal.returns-then-chain
returns-then-chain c =
    let a = c.args in
    let f : c.fill.new.self ≡ zeros (length a.row.now) = search rules in
    step-lost (raster_of a.raster) (as_pixels a.raster.ppl) a.k a.chain c.requires.chain_at c.if-chain.true c.fill.new.self (f ∙ ap zeros c.requires.row_len)

pub slice_bounds-rest-count : goal.slice_bounds-rest-count
slice_bounds-rest-count c = at_within (raster_of c.args.raster) c.args.k c.args.chain c.requires.chain_at c.requires.start_in_bounds

pub slice_bounds-rest-start : goal.slice_bounds-rest-start
slice_bounds-rest-start c = at_within (raster_of c.args.raster) c.args.k c.args.chain c.requires.chain_at c.requires.start_in_bounds

pub overflow_add-result : goal.overflow_add-result
overflow_add-result c =
    let r = raster_of c.args.raster in
    let within = at_within r c.args.k c.args.chain c.requires.chain_at c.requires.start_in_bounds in
    omega (arith, next_within r c.args.chain.at c.number_line-numbered.result.number _ within (scan-of (rw c.requires.row_len at c.in-Ok.ensures)))

pub overflow_add-result-in-Ok : goal.overflow_add-result-in-Ok
overflow_add-result-in-Ok c =
    omega (arith, c.requires.chain_at.good, good_most (raster_of c.args.raster) c.args.k, c.one_if_good.ensures, one_most c.mark.result)

pub returns-in-Ok : goal.returns-in-Ok
returns-in-Ok c =
    let a = c.args in
    let n = c.number_line-numbered.ensures in
    let line = rw c.requires.row_len at c.in-Ok.ensures in
    step-line (raster_of a.raster) (as_pixels a.raster.ppl) a.k a.chain c.requires.chain_at c.if-chain.false n.rollover_value n.number_value c.read_scanline.new.row line.row_is
    c.in-Ok.line c.one_if_good.result (scan-of line) (c.one_if_good.ensures ∙ ap one_if_good c.mark.ensures)

pub returns-in-Err : goal.returns-in-Err
returns-in-Err c =
    let a = c.args in
    let n = c.number_line-numbered.ensures in
    let line = rw c.requires.row_len at c.in-Err.ensures in
    step_fault (raster_of a.raster) (as_pixels a.raster.ppl) a.k a.chain c.requires.chain_at c.if-chain.false n.rollover_value n.number_value c.read_scanline.new.row line.row_is
    c.in-Err.fault (scan-of line)
