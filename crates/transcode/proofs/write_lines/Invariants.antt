use Rattle.layout.specs.Chain.{raster_of}
use Rattle.transcode.proofs.Laws.Writing.{WrittenAt}
use Rattle.transcode.proofs.write_lines.Given as goal

abbrev pub invariant-loop-k : goal.invariant-loop-k
invariant-loop-k l = WrittenAt (raster_of l.l) l.from l.rollover l.row l.initial.out l.out l.at l.k
