use Rattle.std.proofs.Common.{sym, arith}
use Rattle.layout.specs.Scanline.{head_of}
use Rattle.transcode.proofs.Laws.Writing.{line_open, headed_room, line-headed}
use Rattle.transcode.proofs.put_line.Goals as goal

pub returns-then-scn-ne1 : goal.returns-then-scn-ne1
returns-then-scn-ne1 c =
    let a = c.args in
    let x = c.write_body.ensures in
    let both = line_open a.scn a.to a.rest.now a.row.now a.out.now c.requires c.if-scn-ne1.true (x.result_value, x.out_after) in
    record { result_value = both.0; out_after = both.1 }

pub slice_bounds-write_body-count : goal.slice_bounds-write_body-count
slice_bounds-write_body-count c =
    let a = c.args in
    omega (arith, headed_room a.scn a.to a.rest.now a.row.now a.out.now c.requires c.if-scn-ne1.false)

pub slice_bounds-write_body-start : goal.slice_bounds-write_body-start
slice_bounds-write_body-start c =
    let a = c.args in
    omega (arith, headed_room a.scn a.to a.rest.now a.row.now a.out.now c.requires c.if-scn-ne1.false)

pub slice_bounds-fit_header-end : goal.slice_bounds-fit_header-end
unfolding head_of
slice_bounds-fit_header-end c = sym (c.requires.eight c.if-scn-ne1.false)

pub returns : goal.returns
unfolding head_of
returns c =
    let a = c.args in
    let x = c.write_body-body.ensures in
    let both =
    line-headed a.scn a.to a.rest.now a.row.now a.out.now c.requires c.if-scn-ne1.false (x.result_value, x.out_after) c.bytes_to_words.ensures c.fit_header.ensures in
    record { result_value = both.0; out_after = both.1 }
