-- A picture by its rows and columns, as the loops fill it, and the moves that are such pictures.
use Rattle.std.specs.Prelude.{ℕ, ◌*◌, ◌≤◌, ◌<◌, ◌≡◌, Bool, List, ◌++◌, length, drop}
use Rattle.std.proofs.Common.{◌∙◌}
use Rattle.std.proofs.Math.Bool.{true, false}
use borrow.Author.Tests.{lt-ltb, le-ltb}
use Rattle.moves.specs.Moves.{moved, moved_after}
unfoldable pub use Rattle.moves.specs.Laws.Picture.{row_pixel, column_pixel, picture, line_moved}

module _ (crossed leftward upward : Bool) (w h : ℕ) (input output : List ℕ) where
  pub is_moved : h * w ≤ length input → h * w ≤ length output
      → moved_after crossed leftward upward w h input output ≡ moved crossed leftward upward w h input ++ drop (h * w) output
  unfolding moved_after
  is_moved a b = rw (le-ltb (length input) (h * w) a, le-ltb (length output) (h * w) b)

  pub short_input : length input < h * w → moved_after crossed leftward upward w h input output ≡ output
  unfolding moved_after
  short_input a = rw (lt-ltb (length input) (h * w) a)

  pub short_output : h * w ≤ length input → length output < h * w → moved_after crossed leftward upward w h input output ≡ output
  unfolding moved_after
  short_output a b = rw (le-ltb (length input) (h * w) a, lt-ltb (length output) (h * w) b)

-- a picture by rows or by columns is what the move leaves
module _ (leftward upward : Bool) (w h : ℕ) (input output : List ℕ) (a : h * w ≤ length input) (b : h * w ≤ length output) where
  pub rows-moved : {crossed : Bool} {out : List ℕ} → crossed ≡ false → out ≡ picture w h (row_pixel leftward upward w h input) ++ drop (h * w) output
      → out ≡ moved_after crossed leftward upward w h input output
  unfolding picture moved
  rows-moved e g = g ∙ (rw (e, is_moved false leftward upward w h input output a b))

  pub columns_moved : {crossed : Bool} {out : List ℕ} → crossed ≡ true → out ≡ picture w h (column_pixel leftward upward w h input) ++ drop (h * w) output
      → out ≡ moved_after crossed leftward upward w h input output
  unfolding picture moved
  columns_moved e g = g ∙ (rw (e, is_moved true leftward upward w h input output a b))
