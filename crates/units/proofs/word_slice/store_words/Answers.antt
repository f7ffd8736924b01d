use Rattle.std.proofs.Common.{◌+◌, arith}
use Rattle.units.proofs.Laws.Stores.{over_word, over_room}
use Rattle.units.proofs.word_slice.store_words.Goals as goal

-- the word that does not fit whole
pub returns-then-n-from : goal.returns-then-n-from
returns-then-n-from c =
    let a = c.args in
    let i = c.loop-i.i in
    let next = over_word a.from.now a.to.now i (omega arith) in
    let all = over_room a.from.now a.to.now (i + 1) (omega arith) in
    grind arith
