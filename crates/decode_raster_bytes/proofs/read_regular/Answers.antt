use Rattle.std.proofs.Common.{sym, ◌∙◌, arith}
use Rattle.numbering.proofs.Laws.Numbering.{number_most}
use Rattle.layout.specs.Chain.{raster_of}
use Rattle.decode_raster.specs.Laws.Answer.{as_bytes}
use Rattle.decode_raster.proofs.Laws.Steps.{at_within}
use Rattle.decode_raster.proofs.Laws.Lines.{lines_first}
use Rattle.decode_raster_bytes.proofs.read_regular.Goals as goal
use Rattle.decode_raster_bytes.proofs.read_regular.Goals.{then-raster-eq2, else-raster-eq2}
use Rattle.decode_raster_bytes.proofs.Laws.Regular.{line-at, line_ends, next, renumbered, in_run}

pub loop-first-init : goal.loop-first-init
loop-first-init c =
    let a = c.args in (
      λ more. elim c.if-raster-eq2.branch [ then-raster-eq2 w ↦ (w.if-raster-eq2.true, omega arith) | else-raster-eq2 w ↦ absurd (omega arith) ],
      lines_first (raster_of a.raster) (as_bytes a.raster.ppl) a.pixels.now a.marks.now,
    )

pub slice_bounds-number_line-count : goal.slice_bounds-number_line-count
slice_bounds-number_line-count c = at_within (raster_of c.args.raster) c.loop-first.first _ c.loop-first.invariant.1.chain c.requires.starts

pub slice_bounds-number_line-start : goal.slice_bounds-number_line-start
slice_bounds-number_line-start c = at_within (raster_of c.args.raster) c.loop-first.first _ c.loop-first.invariant.1.chain c.requires.starts

pub overflow_sub-before : goal.overflow_sub-before
overflow_sub-before c = let n = c.number_line-numbered in omega (arith, n.ensures.number_value, number_most n.result.rollover c.loop-first.first)

pub loop-k-init : goal.loop-k-init
loop-k-init c =
    let a = c.args in
    let l = c.loop-first in
    let n = c.number_line-numbered in
    renumbered (raster_of a.raster) a.pixels.now a.marks.now l.pixels l.marks l.at l.first l.rollover n.result.rollover l.invariant.1 n.ensures.rollover_value

pub slice_bounds-is_regular-count : goal.slice_bounds-is_regular-count
slice_bounds-is_regular-count c = at_within (raster_of c.args.raster) c.loop-k.k _ c.loop-k.invariant.chain c.requires.starts

pub slice_bounds-is_regular-start : goal.slice_bounds-is_regular-start
slice_bounds-is_regular-start c = at_within (raster_of c.args.raster) c.loop-k.k _ c.loop-k.invariant.chain c.requires.starts

pub overflow_add-a : goal.overflow_add-a
overflow_add-a c =
    let r = raster_of c.args.raster in
    let l = c.loop-k in
    let tests = sym c.is_regular.ensures ∙ c.if-not-is_regular.false in
    let within = at_within r l.k _ l.invariant.chain c.requires.starts in
    omega (arith, line_ends r l.at _ _ c.regular_size-size.ensures tests within _ c.body_start-start.ensures)

pub overflow_add-b : goal.overflow_add-b
overflow_add-b c =
    let r = raster_of c.args.raster in
    let l = c.loop-k in
    let tests = sym c.is_regular.ensures ∙ c.if-not-is_regular.false in
    let within = at_within r l.k _ l.invariant.chain c.requires.starts in
    omega (arith, line_ends r l.at _ _ c.regular_size-size.ensures tests within _ c.body_start-start.ensures)

pub slice_bounds-widen_words-end : goal.slice_bounds-widen_words-end
slice_bounds-widen_words-end c =
    let r = raster_of c.args.raster in
    let l = c.loop-k in
    let tests = sym c.is_regular.ensures ∙ c.if-not-is_regular.false in
    let within = at_within r l.k _ l.invariant.chain c.requires.starts in
    omega (arith, line_ends r l.at _ _ c.regular_size-size.ensures tests within _ c.body_start-start.ensures)

pub overflow_add-at : goal.overflow_add-at
overflow_add-at c =
    let r = raster_of c.args.raster in
    let l = c.loop-k in
    let tests = sym c.is_regular.ensures ∙ c.if-not-is_regular.false in
    let within = at_within r l.k _ l.invariant.chain c.requires.starts in
    omega (arith, line_ends r l.at _ _ c.regular_size-size.ensures tests within _ c.body_start-start.ensures)

pub loop-k-preserved : goal.loop-k-preserved
loop-k-preserved c =
    let a = c.args in
    let r = raster_of a.raster in
    let f = c.loop-first in
    let l = c.loop-k in
    let n = c.number_line-numbered in
    let typed = f.invariant.0 (omega arith) in
    let x = in_run r a.pixels.now a.marks.now f.pixels f.marks f.at f.first f.rollover n.result.rollover f.invariant.1 n.ensures.rollover_value n.ensures.number_value {end = c.min-end.result} (omega arith) l.k (omega arith) c.loop-k-test.true in
    let tests = sym c.is_regular.ensures ∙ c.if-not-is_regular.false in
    next r a.pixels.now a.marks.now l.pixels l.marks l.at l.k n.result.rollover l.invariant (omega arith) c.requires typed.0 x.0 x.1
    (line-at r l.at _ _ c.regular_size-size.ensures tests) c.words_to_bytes-width.result.0 c.body_start-start.result c.regular_size-size.result.0 (omega arith)
    c.body_start-start.ensures c.regular_size-size.ensures c.widen_words.new.to c.widen_words.ensures
