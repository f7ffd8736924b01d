use Rattle.std.proofs.Common.{◌*◌, ◌≡◌, length, drop}
use lib.Seq.{sets}
use Rattle.units.specs.Over.{over}
use Rattle.answers.specs.Answer.{number_bytes}
use Rattle.answers.proofs.store_numbers.Given as goal

abbrev pub invariant-loop-i : goal.invariant-loop-i
invariant-loop-i l = (length l.out ≡ length l.initial.out) × (sets l.out (4 * l.i) (number_bytes (drop l.i l.numbers)) ≡ over (number_bytes l.numbers) l.initial.out)
