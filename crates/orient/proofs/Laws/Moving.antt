-- Both calls, for every code, are moves of a whole picture, where the buffers have room; they have where a call is not rejected.
use Rattle.std.specs.Prelude.{ℕ, ◌*◌, ◌≤◌, ◌≡◌, Bool, cond, List, ◌++◌, length, drop}
use Rattle.std.proofs.Common.{sym, ◌∙◌}
use Rattle.std.proofs.Math.Bool.{true, false}
use Rattle.std.proofs.Math.Nat.{mul_comm}
use Rattle.moves.specs.Moves.{moved, moved_after}
use Rattle.moves.proofs.Laws.Picture.{is_moved}
use Rattle.orient.specs.Orientation.{at_right, at_bottom, lines_are_rows, turned, turned_back}
use Rattle.orient.specs.Turning.{turn_rejection, upright_after, pixels_after}
use Rattle.orient.proofs.Laws.Turning.{has_room, upright_filled, pixels_filled}

-- the answer of either call
abbrev pub either_way : Bool → ℕ → ℕ → ℕ → List ℕ → List ℕ
either_way back slo p n s = cond back (turned_back slo p n s) (turned slo p n s)

-- by the buffers alone
module _ (slo p n : ℕ) (input output out : List ℕ) (a : n * p ≤ length input) (b : n * p ≤ length output) {right bottom : Bool}
    (r : right ≡ at_right slo) (d : bottom ≡ at_bottom slo) where
  pub by_rows : (back : Bool) → lines_are_rows slo ≡ true → out ≡ moved_after false right bottom p n input output
      → out ≡ either_way back slo p n input ++ drop (n * p) output
  unfolding turned turned_back moved
  by_rows true e h = h ∙ (rw (is_moved false right bottom p n input output a b, e, ← r, ← d))
  by_rows false e h = h ∙ (rw (is_moved false right bottom p n input output a b, e, ← r, ← d))

  pub by_columns : {back : Bool} → back ≡ false → lines_are_rows slo ≡ false → out ≡ moved_after true right bottom n p input output
      → out ≡ either_way back slo p n input ++ drop (n * p) output
  unfolding turned moved
  by_columns f e h =
      h
      ∙ (rw (is_moved true right bottom n p input output (rw (mul_comm p n) a) (rw (mul_comm p n) b), f, e, ← r, ← d, mul_comm n p))

  pub back_by_columns : {back : Bool} → back ≡ true → lines_are_rows slo ≡ false → out ≡ moved_after true bottom right p n input output
      → out ≡ either_way back slo p n input ++ drop (n * p) output
  unfolding turned_back moved
  back_by_columns t e h = h ∙ (rw (is_moved true bottom right p n input output a b, t, e, ← r, ← d))

-- by a call that is not rejected
module _ (slo p n : ℕ) (input output : List ℕ) (taken : turn_rejection slo p n (length input) (length output) ≡ 0) {right bottom : Bool}
    (r : right ≡ at_right slo) (d : bottom ≡ at_bottom slo) where
  room : (n * p ≤ length input) × (n * p ≤ length output)
  room = has_room slo p n (length input) (length output) taken

  pub rows_turned : lines_are_rows slo ≡ true → moved_after false right bottom p n input output ≡ upright_after slo p n input output
  unfolding turned moved
  rows_turned e = (rw (is_moved false right bottom p n input output room.0 room.1, r, d, e)) ∙ sym (upright_filled slo p n input output taken)

  pub rows_back : lines_are_rows slo ≡ true → moved_after false right bottom p n input output ≡ pixels_after slo p n input output
  unfolding turned_back moved
  rows_back e = (rw (is_moved false right bottom p n input output room.0 room.1, r, d, e)) ∙ sym (pixels_filled slo p n input output taken)

  pub columns_turned : lines_are_rows slo ≡ false → moved_after true right bottom n p input output ≡ upright_after slo p n input output
  unfolding turned moved
  columns_turned e =
      (rw (is_moved true right bottom n p input output (rw (mul_comm p n) room.0) (rw (mul_comm p n) room.1), r, d, e, mul_comm n p))
      ∙ sym (upright_filled slo p n input output taken)

  pub columns_back : lines_are_rows slo ≡ false → moved_after true bottom right p n input output ≡ pixels_after slo p n input output
  unfolding turned_back moved
  columns_back e = (rw (is_moved true bottom right p n input output room.0 room.1, r, d, e)) ∙ sym (pixels_filled slo p n input output taken)
