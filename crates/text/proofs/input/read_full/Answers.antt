use Rattle.std.proofs.Common.{◌≡◌, ℕ, ◌+◌, ◌-◌, ◌≤◌, List, length, take, sym, subst, rules, take_at, drop_at, arith, length-take-le, ◌++◌}
use Rattle.std.proofs.Math.Seq.{take-add, take-append-le}
use Rattle.std.specs.Io.KnownBytes.{Consumes}
use Rattle.std.proofs.KnownBytes.{Consumes-trans}
use borrow.Rule.Slice.PartMut.{put_mid}
use Rattle.text.proofs.input.read_full.Goals as goal

-- the part from `at` on is back, and the bytes that were put at its start stand behind those before it
filled : (buffer part : List ℕ) (at k n : ℕ) → at ≤ length buffer → n ≤ length part
    → take (at + n) (put_mid at k buffer part) ≡ take at buffer ++ take n part
filled buffer part at k n h g = grind (arith, take-add {A = ℕ}, take_at {A = ℕ}, drop_at {A = ℕ}, length-take-le {A = ℕ}, take-append-le {A = ℕ})

pub loop-done-preserved : goal.loop-done-preserved
loop-done-preserved g c =
    let at = c.loop-done.done in
    let e = filled c.loop-done.buffer c.read.new.buf at (length c.loop-done.buffer - at) c.in_ok-n.n c.loop-done.invariant.0 c.in_ok-n.ensures.bound.0 in
    (search rules, subst (Consumes _ _) (sym e) (Consumes-trans _ _ _ _ _ c.loop-done.invariant.1 c.in_ok-n.ensures.bytes.0))
