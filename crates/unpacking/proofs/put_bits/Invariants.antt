use Rattle.std.proofs.Common.{◌≡◌, take}
use Rattle.units.specs.Over.{over}
use Rattle.packing.specs.Packing.{bits}
use Rattle.unpacking.proofs.put_bits.Given as goal

abbrev pub invariant-loop-j : goal.invariant-loop-j
invariant-loop-j l = l.part ≡ over (take l.j (bits 16 l.w)) l.initial.part
