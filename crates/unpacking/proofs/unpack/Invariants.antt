use Rattle.std.proofs.Common.{◌*◌, ◌≡◌, drop}
use Rattle.std.proofs.lemmas.List.Edits.{sets}
use Rattle.units.specs.Over.{over}
use Rattle.units.specs.Words.{words}
use Rattle.packing.specs.Packing.{word_bits}
use Rattle.unpacking.proofs.unpack.Given as goal

abbrev pub invariant-loop-k : goal.invariant-loop-k
invariant-loop-k l = sets l.row (16 * l.k) (word_bits (words (drop (2 * l.k) l.body))) ≡ over (word_bits (words l.body)) l.initial.row
