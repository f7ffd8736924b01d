use Rattle.std.proofs.Common.{sym, ◌∙◌}
use Rattle.units.specs.Words.{words}
use Rattle.units.proofs.Laws.Over.{over_taken}
use Rattle.packing.specs.Packing.{word_bits}
use Rattle.decode_packed.proofs.paint_packed.Goals as goal

pub returns : goal.returns
returns c =
    let a = c.args in
    c.unpack.ensures ∙ sym (over_taken (word_bits (words a.body.now)) a.row.now)
