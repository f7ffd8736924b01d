use Rattle.std.proofs.Common.{◌≡◌, ◌/◌, ◌∙◌, ap, arith, length}
use Rattle.layout.specs.Chain.{raster_of, one_if_good}
use Rattle.layout.proofs.Laws.Chain.{good_most}
use Rattle.layout.proofs.Laws.Line.{length-row}
use Rattle.decode_raster.specs.Laws.Answer.{as_bytes}
use Rattle.decode_raster.proofs.Laws.Steps.{at_within, next_within, one_most, step-line, step_fault, bytes_full}
use Rattle.decode_raster_bytes.proofs.read_line.Goals as goal

pub slice_bounds-rest-count : goal.slice_bounds-rest-count
slice_bounds-rest-count c = at_within (raster_of c.args.raster) c.args.k c.args.chain c.requires.chain_at c.requires.start_in_bounds

pub slice_bounds-rest-start : goal.slice_bounds-rest-start
slice_bounds-rest-start c = at_within (raster_of c.args.raster) c.args.k c.args.chain c.requires.chain_at c.requires.start_in_bounds

pub overflow_add-result : goal.overflow_add-result
overflow_add-result c =
    let r = raster_of c.args.raster in
    let p : length c.args.row.now / 2 ≡ c.args.raster.ppl = omega (arith, c.requires.row_len) in
    let within = at_within r c.args.k c.args.chain c.requires.chain_at c.requires.start_in_bounds in
    omega (arith, next_within r c.args.chain.at c.number_line-numbered.result.number _ within (rw p at c.in-Ok.ensures.scan))

pub overflow_add-result-in-Ok : goal.overflow_add-result-in-Ok
overflow_add-result-in-Ok c =
    omega (arith, c.requires.chain_at.good, good_most (raster_of c.args.raster) c.args.k, c.one_if_good.ensures, one_most c.mark.result)

pub returns-in-Ok : goal.returns-in-Ok
returns-in-Ok c =
    let a = c.args in
    let n = c.number_line-numbered.ensures in
    let p : length a.row.now / 2 ≡ a.raster.ppl = omega (arith, c.requires.row_len) in
    step-line (raster_of a.raster) (as_bytes a.raster.ppl) a.k a.chain c.requires.chain_at c.requires.lost_value n.rollover_value n.number_value c.read_scanline_bytes.new.row
    (rw p at c.in-Ok.ensures.row_after ∙ bytes_full _ a.row.now a.raster.ppl (length-row a.raster.scn a.raster.dtc a.raster.ppl _ _) c.requires.row_len)
    c.in-Ok.line c.one_if_good.result (rw p at c.in-Ok.ensures.scan) (c.one_if_good.ensures ∙ ap one_if_good c.mark.ensures)

pub returns-in-Err : goal.returns-in-Err
returns-in-Err c =
    let a = c.args in
    let n = c.number_line-numbered.ensures in
    let p : length a.row.now / 2 ≡ a.raster.ppl = omega (arith, c.requires.row_len) in
    step_fault (raster_of a.raster) (as_bytes a.raster.ppl) a.k a.chain c.requires.chain_at c.requires.lost_value n.rollover_value n.number_value c.read_scanline_bytes.new.row
    (rw p at c.in-Err.ensures.row_after ∙ bytes_full _ a.row.now a.raster.ppl (length-row a.raster.scn a.raster.dtc a.raster.ppl _ _) c.requires.row_len)
    c.in-Err.fault (rw p at c.in-Err.ensures.scan)
