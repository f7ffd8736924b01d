use Rattle.std.proofs.Common.{◌≡◌, take}
use Rattle.units.specs.Over.{over}
use Rattle.slices.proofs.copy.Given as goal

abbrev pub invariant-loop-i : goal.invariant-loop-i
invariant-loop-i l = l.to ≡ over (take l.i l.from) l.initial.to
