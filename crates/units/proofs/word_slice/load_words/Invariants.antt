use Rattle.std.proofs.Common.{◌≡◌, take}
use Rattle.units.specs.Over.{over}
use Rattle.units.specs.Words.{words}
use Rattle.units.proofs.word_slice.load_words.Given as goal

abbrev pub invariant-loop-i : goal.invariant-loop-i
invariant-loop-i l = l.to ≡ over (take l.i (words l.from)) l.initial.to
