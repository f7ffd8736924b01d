use Rattle.std.proofs.Common.{◌-◌, ◌%◌, ◌/◌, ◌≡◌, sym, pow_pos, arith}
use Rattle.units.specs.Counts.{word_bytes}
use Rattle.packing.proofs.Laws.Spare.{spare_none, spare_some, divisor}
use Rattle.decode_packed.proofs.spare_set.Goals as goal

pub returns-then-used-eq0 : goal.returns-then-used-eq0
returns-then-used-eq0 c = sym (spare_none _ _ c.requires c.if-used-eq0.true)

pub nonzero_rem-result : goal.nonzero_rem-result
nonzero_rem-result c =
    let used = c.if-used-eq0.false in
    omega (arith, divisor c.args.p used, pow_pos (16 - c.args.p % 16))

pub returns : goal.returns
returns c =
    let used = c.if-used-eq0.false in
    let at : c.words_to_bytes.result.0 ≡ word_bytes (c.args.p / 16) = omega arith in
    rw (divisor c.args.p used, c.u16_at-last.ensures, at) (sym (spare_some c.args.body.now c.args.p c.requires used))
