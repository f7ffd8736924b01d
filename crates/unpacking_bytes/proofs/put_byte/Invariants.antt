use Rattle.std.proofs.Common.{◌≡◌, take}
use Rattle.units.specs.Over.{over}
use Rattle.packing.specs.Weights.{picked}
use Rattle.unpacking_bytes.proofs.put_byte.Given as goal

abbrev pub invariant-loop-j : goal.invariant-loop-j
invariant-loop-j l = l.part ≡ over (take l.j (picked l.b l.weights)) l.initial.part
