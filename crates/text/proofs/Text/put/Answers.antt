use Rattle.std.proofs.Common.{arith}
use Rattle.std.proofs.lemmas.Grind.{common_steps}
use Rattle.std.proofs.lemmas.List.{drop-drop}
use Rattle.text.proofs.Text.put.Goals as goal

pub returns : goal.returns
returns g c = rw (← c.self.view_is, c.copy_from_slice.ensures.after) (grind (arith, common_steps, drop-drop))
