use Rattle.std.proofs.Common.{sym, ◌∙◌, ◌≡◌, ◌≤◌, ◌-◌, ℕ, List, length, take, arith, le_refl, le-ltb, take-append-drop, length-take-le}
use Rattle.std.proofs.Math.Seq.{paste, take-length}
use borrow.Rule.Slice.PartMut.{mid_of, put_mid, mid_len}
use Rattle.units.specs.Over.{over}
use Rattle.units.proofs.Laws.Over.{over_fits}
use Rattle.units.proofs.Laws.Parts.{put_next}
use Rattle.text.proofs.placed.put.Goals as goal

-- the lent part is back with the text at its start
pasted : (out text part : List ℕ) (at : ℕ) → at ≤ length out → length text ≤ length out - at
    → part ≡ over text (mid_of at (length out - at) out) → put_mid at (length out - at) out part ≡ paste out at text (length text)
pasted out text part at h g e =
    let mid = mid_of at (length out - at) out in
    let room : length text ≤ length mid = omega (arith, mid_len at (length out) out (le_refl (length out))) in
    rw (take-length text)
    (put_next (take at out) text out out part at (length-take-le at out h) (sym (take-append-drop at out)) (e ∙ over_fits text mid room))

pub returns-clause-out_after : goal.returns-clause-out_after
returns-clause-out_after c =
    let a = c.args in
    let h : a.at ≤ length a.out.now = omega arith in
    let g : length a.text.now ≤ length a.out.now - a.at = omega arith in
    simp (le-ltb _ _ h, le-ltb _ _ g) (pasted a.out.now a.text.now _ a.at h g c.copy.ensures)
