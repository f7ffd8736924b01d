-- No rejection has the number 0 and no fault the mark 0.
use Rattle.std.specs.Prelude.{◌≡◌}
use Rattle.std.proofs.Common.{arith}
use Rattle.std.proofs.lemmas.Grind.{common_steps}
use Rattle.refusals.specs.declared.Fault.{Fault}
use Rattle.refusals.specs.declared.Rejection.{Rejection}
use Rattle.refusals.specs.Faults.{mark_of}
use Rattle.refusals.specs.Rejections.{number_of}

pub marked : (f : Fault) → mark_of f ≡ 0 → ⊥
marked f e = grind (arith, common_steps)

pub numbered : (r : Rejection) → number_of r ≡ 0 → ⊥
numbered r e = grind (arith, common_steps)
