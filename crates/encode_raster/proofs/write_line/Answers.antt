use Rattle.std.proofs.Common.{arith}
use Rattle.encode_raster.proofs.Laws.Line.{line_open, headed_room, line-headed}
use Rattle.encode_raster.proofs.write_line.Goals as goal

pub returns-then-job-ne1 : goal.returns-then-job-ne1
returns-then-job-ne1 c =
    let a = c.args in
    let w = c.write_body.ensures in
    let both = line_open a.job.dtc a.job.scn a.number a.row.now a.out.now c.requires c.if-job-ne1.true (w.result_value, w.out_after) in
    record { result_value = both.0; out_after = both.1 }

pub slice_bounds-write_body-count : goal.slice_bounds-write_body-count
slice_bounds-write_body-count c =
    let a = c.args in
    omega (arith, headed_room a.job.dtc a.job.scn a.number a.row.now a.out.now c.requires c.if-job-ne1.false)

pub slice_bounds-write_body-start : goal.slice_bounds-write_body-start
slice_bounds-write_body-start c =
    let a = c.args in
    omega (arith, headed_room a.job.dtc a.job.scn a.number a.row.now a.out.now c.requires c.if-job-ne1.false)

pub returns : goal.returns
returns c =
    let a = c.args in
    let w = c.write_body-body.ensures in
    let both = line-headed a.job.dtc a.job.scn a.number a.row.now a.out.now c.requires c.if-job-ne1.false
    (w.result_value, w.out_after) c.bytes_to_words-follow.ensures c.put_line_header.ensures in
    record { result_value = both.0; out_after = both.1 }
