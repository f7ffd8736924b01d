use Rattle.std.proofs.Common.{drop, ◌+◌, ◌≡◌}
use Rattle.codec.specs.Leading.{leading}
use Rattle.encode_body.proofs.pair_body.run_end.Given as goal

abbrev pub invariant-loop-i : goal.invariant-loop-i
invariant-loop-i l = l.i + leading l.v (drop l.i l.row) ≡ l.from + leading l.v (drop l.from l.row)
