use Rattle.std.proofs.Common.{◌≡◌, replicate}
use Rattle.units.specs.Over.{over}
use Rattle.units.specs.Words.{words_to_bytes}
use Rattle.units.proofs.word_slice.fill_words.Given as goal

abbrev pub invariant-loop-i : goal.invariant-loop-i
invariant-loop-i l = l.out ≡ over (words_to_bytes (replicate l.i l.w)) l.initial.out
