use Rattle.std.proofs.Common.{ℕ, ◌+◌, ◌%◌, sym, ap, ◌∙◌, arith}
use Rattle.numbering.proofs.Laws.Numbering.{written-first, written_next}
use Rattle.encode_raster.proofs.Laws.Lines.{lines_first, turn}
use Rattle.encode_raster.specs.Laws.Answer.{bare}
use Rattle.encode_raster.proofs.Sheet.write_lines.Goals as goal

pub loop-k-init : goal.loop-k-init
loop-k-init c = let s = c.args.self.now in (lines_first (bare s.job s.pixels.now) c.args.out.now, sym written-first)

pub write_line-at-requires : goal.write_line-at-requires
write_line-at-requires c =
    let s = c.args.self.now in
    let l = c.loop-k in
    rw c.row.ensures ((turn (bare s.job s.pixels.now) c.args.out.now l.out l.at l.k l.invariant.0 (omega arith) c.requires l.invariant.1).line_fits)

pub loop-k-preserved : goal.loop-k-preserved
loop-k-preserved c =
    let s = c.args.self.now in
    let l = c.loop-k in
    let w = c.write_line-at.ensures in
    let here = turn (bare s.job s.pixels.now) c.args.out.now l.out l.at l.k l.invariant.0 (omega arith) c.requires l.invariant.1 in (
      here.lines_next (rw c.row.ensures at w.result_value, rw c.row.ensures at w.out_after),
      ap (λ (n : ℕ). (n + 1) % 65536) l.invariant.1 ∙ written_next l.k,
    )
