use Rattle.packing.proofs.Laws.Lanes.{sixteen}
use Rattle.packing.proofs.first_word.Goals as goal

pub returns : goal.returns
returns c = sixteen c.args.row.now _ (rw (c.four.ensures, c.four-2.ensures, c.four-3.ensures, c.four-4.ensures))
