use Rattle.std.proofs.Common.{◌<◌, ◌≡◌, ◌-◌}
use Rattle.layout.specs.Chain.{raster_of}
use Rattle.decode_raster.specs.Laws.Answer.{as_bytes, good_chain}
use Rattle.decode_raster.proofs.Laws.Lines.{LinesAt}
use Rattle.decode_raster_bytes.proofs.read_regular.Given as goal

abbrev pub invariant-loop-first : goal.invariant-loop-first
invariant-loop-first l =
    (l.first < l.n → (l.raster.dtc ≡ 2) × (l.n ≡ l.raster.nol))
    × LinesAt (raster_of l.raster) (as_bytes l.raster.ppl) l.fn.pixels l.fn.marks l.pixels l.marks (good_chain l.at l.first l.rollover) l.first

abbrev pub decreases-loop-first : goal.decreases-loop-first
decreases-loop-first l = l.n - l.first

abbrev pub invariant-loop-k : goal.invariant-loop-k
invariant-loop-k l =
    LinesAt (raster_of l.raster) (as_bytes l.raster.ppl) l.fn.pixels l.fn.marks l.pixels l.marks (good_chain l.at l.k l.rollover) l.k
