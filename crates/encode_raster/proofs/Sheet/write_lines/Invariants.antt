use Rattle.std.proofs.Common.{◌≡◌}
use Rattle.numbering.specs.Numbering.{written_number}
use Rattle.encode_raster.proofs.Laws.Lines.{LinesAt}
use Rattle.encode_raster.specs.Laws.Answer.{bare}
use Rattle.encode_raster.proofs.Sheet.write_lines.Given as goal

abbrev pub invariant-loop-k : goal.invariant-loop-k
invariant-loop-k l = LinesAt (bare l.self.job l.self.pixels.now) l.initial.out l.out l.at l.k × (l.number ≡ written_number l.k)
