use Rattle.std.proofs.Common.{length, drop, get_or, length-append, arith, ◌-◌, ◌+◌, zero-le, refl, ap}
use Rattle.codec.proofs.Laws.PairWriting.{next_pair, no_pair, length-pair_words}
use Rattle.units.proofs.Laws.Stores.{length-bytes}
use Rattle.codec.proofs.Laws.Leading.{leading_within}
use Rattle.cutting.specs.Pieces.{value_pieces}
use Rattle.codec.specs.PairPixels.{pair_words}
use Rattle.encode_body.proofs.Laws.Left.{left_start, left_more, left_none}
use Rattle.encode_body.proofs.pair_body.write_pairs.Goals as goal

pub loop-i-init : goal.loop-i-init
loop-i-init c =
    let a = c.args in
    (zero-le, refl, left_start a.out.now (pair_words a.row.now))

pub put_pairs-at-requires : goal.put_pairs-at-requires
put_pairs-at-requires c =
    let l = c.loop-i in
    let e = c.run_end-end.result in
    let r = c.args.row.now in
    let n = next_pair r l.i e c.loop-i-test.true c.run_end-end.ensures in
    let k = length-append (value_pieces (get_or r l.i 0) (e - l.i)) (pair_words (drop e r)) in
    omega (arith, ap length n, k, l.invariant.2.ends, length-pair_words r)

pub loop-i-preserved : goal.loop-i-preserved
loop-i-preserved c =
    let l = c.loop-i in
    let e = c.run_end-end.result in
    let p = c.put_pairs-at in
    let r = c.args.row.now in
    let v = get_or r l.i 0 in
    let n = next_pair r l.i e c.loop-i-test.true c.run_end-end.ensures in (
      omega (arith, leading_within r (l.i + 1) v (omega arith)),
      omega arith,
      left_more (value_pieces v (e - l.i)) (pair_words (drop e r)) n l.invariant.2 (p.ensures.value, p.ensures.out_after),
    )

pub returns : goal.returns
returns c =
    let l = c.loop-i in
    let r = c.args.row.now in
    let z = no_pair r l.i c.loop-i-test.false in record { result_value = omega (arith, ap length z, l.invariant.2.ends, length-bytes (pair_words r)); out_after = left_none z l.invariant.2 }
