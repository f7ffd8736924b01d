use Rattle.std.proofs.Common.{ℕ, List, [], ◌∷◌, ◌≡◌, refl, ◌∙◌, ap, ◌<◌, ◌+◌, ◌-◌, ◌++◌, length, take, drop, length-append, length-drop, arith}
use borrow.Author.Tests.{true-eqb, false-eqb}
use Rattle.units.proofs.Laws.Parts.{rest_is}
use Rattle.units.proofs.Laws.Stores.{length-bytes}
use Rattle.codec.specs.Leading.{leading}
use Rattle.codec.specs.RunPixels.{run_words}
use Rattle.codec.proofs.Laws.RunWriting.{words_from, first_run, next_run, no_run_on, no_run_off, length-run_words}
use Rattle.cutting.specs.Pieces.{level_pieces}
use Rattle.encode_body.proofs.Laws.Left.{left_start, left_word, left_none, left_more}
use Rattle.encode_body.proofs.run_body.write_runs.Goals as goal

-- the first run of a row, and the one at the start of the pixels that are left
first : (row : List ℕ) (n : ℕ) → n ≡ leading 0 row → run_words row ≡ level_pieces n ++ words_from (take (length row - n) (drop n row)) 1 0
first row n h = rw (rest_is row n) (first_run row n h)

next : (rest : List ℕ) (v n : ℕ) → 0 < length rest → n ≡ leading v (take (length rest - 1) (drop 1 rest))
    → words_from rest v 0 ≡ level_pieces (1 + n) ++ words_from (take (length rest - (1 + n)) (drop (1 + n) rest)) (1 - v) 0
next rest v n h e =
    let k : 1 + n - 0 ≡ 1 + n = omega arith in
    let w : 1 + n ≡ 0 + 1 + leading v (drop (0 + 1) rest) = ap (λ (m : ℕ). 1 + m) (rw rest_is at e) in
    rw (rest_is rest (1 + n)) (next_run rest 0 (1 + n) v h w ∙ rw k)

pub put_run-at-requires : goal.put_run-at-requires
put_run-at-requires c =
    let r = c.args.row.now in
    omega (arith, ap length (first r c.run_length-first.result c.run_length-first.ensures.value), length-append {A = ℕ}, length-run_words r)

pub loop-rest-init : goal.loop-rest-init
loop-rest-init c =
    let a = c.args in
    let n = c.run_length-first.result in
    let p = c.put_run-at in (
      omega (arith, ap length (rest_is a.row.now n), length-drop n a.row.now),
      omega arith,
      refl,
      left_more _ _ (first a.row.now n c.run_length-first.ensures.value) (left_start a.out.now (run_words a.row.now)) (p.ensures.value, p.ensures.out_after),
    )

pub put_run-at-requires-in-loop-rest : goal.put_run-at-requires-in-loop-rest
put_run-at-requires-in-loop-rest c =
    let l = c.loop-rest in
    let r = l.rest.now in
    let n = c.run_length-n.result in
    omega (arith, ap length (next r l.level n (omega (arith, false-eqb (length r) 0 c.loop-rest-test.ensures)) c.run_length-n.ensures.value), length-append {A = ℕ}, l.invariant.3.ends, length-run_words c.args.row.now)

pub loop-rest-preserved : goal.loop-rest-preserved
loop-rest-preserved c =
    let l = c.loop-rest in
    let r = l.rest.now in
    let n = c.run_length-n.result in
    let p = c.put_run-at-in-loop-rest in (
      omega (arith, ap length (rest_is r (1 + n)), length-drop (1 + n) r),
      omega arith,
      omega arith,
      left_more _ _ (next r l.level n (omega (arith, false-eqb (length r) 0 c.loop-rest-test.ensures)) c.run_length-n.ensures.value) l.invariant.3 (p.ensures.value, p.ensures.out_after),
    )

pub returns-then-level-eq1 : goal.returns-then-level-eq1
returns-then-level-eq1 c =
    let l = c.loop-rest in
    let v : l.level ≡ 1 = omega arith in
    let z : words_from l.rest.now l.level 0 ≡ [] = rw v (no_run_on l.rest.now 0 (omega (arith, true-eqb))) in record { result_value = omega (arith, ap length z, l.invariant.3.ends, length-bytes (run_words c.args.row.now)); out_after = left_none z l.invariant.3 }

pub put_next-requires : goal.put_next-requires
put_next-requires c =
    let l = c.loop-rest in
    let v : l.level ≡ 0 = omega arith in
    let z : words_from l.rest.now l.level 0 ≡ 0 ∷ [] = rw v (no_run_off l.rest.now 0 (omega (arith, true-eqb))) in
    omega (arith, ap length z, l.invariant.3.ends, length-run_words c.args.row.now)

pub returns : goal.returns
returns c =
    let l = c.loop-rest in
    let v : l.level ≡ 0 = omega arith in
    let z : words_from l.rest.now l.level 0 ≡ 0 ∷ [] = rw v (no_run_off l.rest.now 0 (omega (arith, true-eqb))) in
    let p = left_word 0 [] z l.invariant.3 (c.put_next.ensures.value, c.put_next.ensures.out_after) in record { result_value = omega (arith, p.ends, length-bytes (run_words c.args.row.now)); out_after = left_none refl p }
