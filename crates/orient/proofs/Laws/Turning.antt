-- A call that is not rejected: its buffers have room, and one of them is filled.
use Rattle.std.specs.Prelude.{ℕ, ◌*◌, ◌≤◌, ◌≡◌, List, ◌++◌, length, drop}
use borrow.Author.Tests.{eq-eqb, ne_eqb, ltb-false, le-ltb}
use Rattle.units.proofs.Laws.Rules.{none_holds}
use Rattle.orient.specs.Orientation.{turned, turned_back}
use Rattle.orient.specs.Turning.{turn_rules, turn_rejection, upright_after, pixels_after}

module _ (slo p n read filled : ℕ) (taken : turn_rejection slo p n read filled ≡ 0) where
  pub has_room : (n * p ≤ read) × (n * p ≤ filled)
  unfolding turn_rejection
  has_room =
      let room = (none_holds (turn_rules slo p n read filled) tt taken).1.1.1.1.1 in
      (ltb-false read (n * p) room.0, ltb-false filled (n * p) room.1.0)

  -- nor is a call with other buffers that have room
  pub still_room : (read' filled' : ℕ) → n * p ≤ read' → n * p ≤ filled' → turn_rejection slo p n read' filled' ≡ 0
  unfolding turn_rejection
  still_room read' filled' a b =
      let slo-taken = none_holds (turn_rules slo p n read filled) tt taken in
      let ppl-taken = slo-taken.1 in
      let nol-taken = ppl-taken.1.1 in
      simp (slo-taken.0, ppl-taken.0, ppl-taken.1.0, nol-taken.0, nol-taken.1.0, le-ltb read' (n * p) a, le-ltb filled' (n * p) b)

module _ (slo p n : ℕ) (input output : List ℕ) (taken : turn_rejection slo p n (length input) (length output) ≡ 0) where
  pub upright_filled : upright_after slo p n input output ≡ turned slo p n input ++ drop (n * p) output
  unfolding upright_after
  upright_filled = rw (eq-eqb _ 0 taken)

  pub pixels_filled : pixels_after slo p n input output ≡ turned_back slo p n input ++ drop (n * p) output
  unfolding pixels_after
  pixels_filled = rw (eq-eqb _ 0 taken)

-- a call that is rejected changes nothing
module _ (slo p n : ℕ) (input output : List ℕ) (refused : turn_rejection slo p n (length input) (length output) ≡ 0 → ⊥) where
  pub upright_kept : output ≡ upright_after slo p n input output
  unfolding upright_after
  upright_kept = rw (ne_eqb _ 0 refused)

  pub pixels_kept : output ≡ pixels_after slo p n input output
  unfolding pixels_after
  pixels_kept = rw (ne_eqb _ 0 refused)
