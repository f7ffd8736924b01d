use Rattle.std.proofs.Common.{refl, ◌∙◌, replicate}
use Rattle.packing.specs.Weights.{powers}
use Rattle.packing.proofs.Laws.Weights.{either_half}
use Rattle.unpacking.proofs.kept_weights.Goals as goal

pub returns : goal.returns
unfolding powers
returns c =
    let n = c.args.n in
    c.widen.ensures ∙ either_half (powers 8) (replicate 8 0) n _ _ refl refl refl
