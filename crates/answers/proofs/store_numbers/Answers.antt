use Rattle.std.proofs.Common.{◌*◌, refl, sym, ◌∙◌, ap, arith, length, get_or}
use lib.Seq.{length-sets}
use Rattle.units.specs.LittleEndian.{u32_bytes}
use Rattle.units.proofs.Laws.Over.{sets_over}
use Rattle.answers.specs.Answer.{number_bytes}
use Rattle.answers.proofs.Laws.Numbers.{sets-number, sets-none}
use Rattle.answers.proofs.store_numbers.Goals as goal

pub loop-i-init : goal.loop-i-init
loop-i-init c = (refl, sets_over (number_bytes _) _)

pub loop-i-preserved : goal.loop-i-preserved
loop-i-preserved c =
    let l = c.loop-i in
    let ns = c.args.numbers.now in
    let e = c.put_long.ensures in (
      ap length e ∙ length-sets l.out (4 * l.i) (u32_bytes (get_or ns l.i 0)) ∙ l.invariant.0,
      rw e (sym (sets-number ns l.out l.i (omega arith)) ∙ l.invariant.1),
    )

pub returns : goal.returns
returns c =
    let l = c.loop-i in
    sym (sets-none c.args.numbers.now l.out l.i (omega arith)) ∙ l.invariant.1
