use Rattle.std.proofs.Common.{◌+◌, arith}
use Rattle.units.proofs.Laws.Stores.{over_same, same_room}
use Rattle.units.proofs.word_slice.fill_words.Goals as goal

-- the word that does not fit whole
pub returns : goal.returns
returns c =
    let a = c.args in
    let i = c.loop-i.i in
    let next = over_same a.out.now i a.w in
    let all = same_room a.out.now (i + 1) a.w (omega arith) in
    grind arith
