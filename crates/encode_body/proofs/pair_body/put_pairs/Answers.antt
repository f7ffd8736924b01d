use Rattle.std.proofs.Common.{length, arith, ◌-◌, [], ◌∷◌, refl, ap}
use Rattle.cutting.proofs.Laws.Rule.{pairs-cut}
use Rattle.cutting.specs.Pieces.{value_pieces}
use Rattle.encode_body.proofs.Laws.Left.{left_word, left_none}
use Rattle.encode_body.proofs.pair_body.put_pairs.Goals as goal

pub loop-left-init : goal.loop-left-init
loop-left-init c = (refl, record { puts = refl; ends = refl })

pub put_next-to-requires : goal.put_next-to-requires
put_next-to-requires c =
    omega (arith, ap length ((pairs-cut c.args.v).above_32767 c.loop-left.left (omega arith)))

pub put_next-to-requires-in-loop-left : goal.put_next-to-requires-in-loop-left
put_next-to-requires-in-loop-left c =
    omega (arith, ap length ((pairs-cut c.args.v).above_32767 c.loop-left.left (omega arith)))

pub loop-left-preserved : goal.loop-left-preserved
loop-left-preserved c =
    let l = c.loop-left in
    let v = c.args.v in
    let r = value_pieces v (l.left - 32767) in
    let p = left_word v (32767 ∷ r) ((pairs-cut v).above_32767 l.left (omega arith)) l.invariant.1 (c.put_next-to.ensures.value, c.put_next-to.ensures.out_after) in
    (omega arith, left_word 32767 r refl p (c.put_next-to-in-loop-left.ensures.value, c.put_next-to-in-loop-left.ensures.out_after))

pub put_next-to-requires-2 : goal.put_next-to-requires-2
put_next-to-requires-2 c =
    omega (arith, ap length ((pairs-cut c.args.v).up_to_32767 c.loop-left.left (omega arith)))

pub put_next-requires : goal.put_next-requires
put_next-requires c =
    omega (arith, ap length ((pairs-cut c.args.v).up_to_32767 c.loop-left.left (omega arith)))

pub returns : goal.returns
returns c =
    let l = c.loop-left in
    let v = c.args.v in
    let p = left_word v (l.left ∷ []) ((pairs-cut v).up_to_32767 l.left (omega arith)) l.invariant.1 (c.put_next-to-2.ensures.value, c.put_next-to-2.ensures.out_after) in
    let q = left_word l.left [] refl p (c.put_next.ensures.value, c.put_next.ensures.out_after) in record { value = omega (arith, q.ends); out_after = left_none refl q }
