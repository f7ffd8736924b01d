use Rattle.std.proofs.Common.{◌*◌, ◌≡◌, drop}
use Rattle.std.proofs.lemmas.List.Edits.{sets}
use Rattle.units.specs.Over.{over}
use Rattle.units.specs.Words.{words, words_to_bytes}
use Rattle.packing.specs.Packing.{word_bits}
use Rattle.unpacking_bytes.proofs.unpack_bytes.Given as goal

abbrev pub invariant-loop-k : goal.invariant-loop-k
invariant-loop-k l =
    sets l.row (32 * l.k) (words_to_bytes (word_bits (words (drop (2 * l.k) l.body))))
    ≡ over (words_to_bytes (word_bits (words l.body))) l.initial.row
