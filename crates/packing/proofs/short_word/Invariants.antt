use Rattle.std.proofs.Common.{◌≡◌}
use Rattle.packing.specs.Packing.{number}
use Rattle.packing.proofs.short_word.Given as goal

abbrev pub invariant-loop-j : goal.invariant-loop-j
invariant-loop-j l = l.w ≡ number l.j l.row
