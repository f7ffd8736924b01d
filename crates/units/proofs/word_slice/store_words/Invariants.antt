use Rattle.std.proofs.Common.{◌≡◌, take}
use Rattle.units.specs.Over.{over}
use Rattle.units.specs.Words.{words_to_bytes}
use Rattle.units.proofs.word_slice.store_words.Given as goal

abbrev pub invariant-loop-i : goal.invariant-loop-i
invariant-loop-i l = l.to ≡ over (words_to_bytes (take l.i l.from)) l.initial.to
