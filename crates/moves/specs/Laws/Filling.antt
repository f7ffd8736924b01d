-- The loops that fill a line, and a picture by rows or by bands of columns.
use Prim.Native.Nat.{ℕ, ◌+◌, ◌*◌, ◌≤◌, ◌<◌}
use Rattle.std.specs.Prelude.{◌≡◌, ◌⊎◌, get_or}
use mathlib.Core.List.{List}

-- A picture w wide and h tall, whose pixel for row i and column j is pix i j, is filled up to column x, and up to column e in
-- the rows above row y. What lies past it is as it was.
pub record Filled (w h : ℕ) (pix : ℕ → ℕ → ℕ) (x e y : ℕ) (old new : List ℕ) : Type 0 where
  pub done : (i j : ℕ) → i < h → j < e → (j < x) ⊎ (i < y) → get_or new (i * w + j) 0 ≡ pix i j
  pub past : (q : ℕ) → h * w ≤ q → get_or new q 0 ≡ get_or old q 0

-- columns x to e are filled: a picture that was filled up to column x is filled up to column e
abbrev pub BandFilled : ℕ → ℕ → (ℕ → ℕ → ℕ) → ℕ → ℕ → List ℕ → List ℕ → Type 0
BandFilled w h pix x e before after = (old : List ℕ) → Filled w h pix x x 0 old before → Filled w h pix e e 0 old after
