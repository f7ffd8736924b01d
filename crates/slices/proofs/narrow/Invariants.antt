use Rattle.std.proofs.Common.{◌≡◌, take}
use Rattle.units.specs.LittleEndian.{low_bytes}
use Rattle.units.specs.Over.{over}
use Rattle.slices.proofs.narrow.Given as goal

abbrev pub invariant-loop-i : goal.invariant-loop-i
invariant-loop-i l = l.to ≡ over (take l.i (low_bytes l.from)) l.initial.to
