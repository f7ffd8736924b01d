use Rattle.std.proofs.Common.{refl, ◌∙◌, replicate}
use Rattle.units.specs.Words.{words_to_bytes}
use Rattle.packing.specs.Weights.{powers}
use Rattle.packing.proofs.Laws.Weights.{either_half}
use Rattle.unpacking_bytes.proofs.kept_weights.Goals as goal

pub returns : goal.returns
unfolding powers words_to_bytes
returns c =
    let n = c.args.n in
    c.copy.ensures ∙ either_half (words_to_bytes (powers 8)) (replicate 16 0) n _ _ refl refl refl
