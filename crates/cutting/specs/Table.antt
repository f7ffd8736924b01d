-- The cutting rule at work: one table under one statement.
use Rattle.std.specs.Prelude.{ℕ, ◌≡◌, List, [], ◌∷◌, map}
use Rattle.cutting.specs.Pieces.{level_pieces, value_pieces}

-- how many pixels a run has, its words in type 9, and in type 10
pub record Case : Type 0 where
  pub pixels : ℕ
  pub runs : List ℕ
  pub pairs : List ℕ

unfoldable pub of : ℕ → List ℕ → List ℕ → Case
of n runs pairs = record { pixels = n; runs = runs; pairs = pairs }

-- a run of value v, by the definitions
unfoldable pub computed : ℕ → Case → Case
computed v c = of c.pixels (level_pieces c.pixels) (value_pieces v c.pixels)

unfoldable pub cases : ℕ → List Case
cases v =
    of 0 (0 ∷ []) (v ∷ 0 ∷ []) ∷
    of 1 (1 ∷ []) (v ∷ 1 ∷ []) ∷
    of 32766 (32766 ∷ []) (v ∷ 32766 ∷ []) ∷
    of 32767 (32767 ∷ []) (v ∷ 32767 ∷ []) ∷
    of 32768 (32767 ∷ 0 ∷ 1 ∷ []) (v ∷ 32767 ∷ v ∷ 1 ∷ []) ∷
    of 65534 (32767 ∷ 0 ∷ 32767 ∷ []) (v ∷ 32767 ∷ v ∷ 32767 ∷ []) ∷
    of 65535 (32767 ∷ 0 ∷ 32767 ∷ 0 ∷ 1 ∷ []) (v ∷ 32767 ∷ v ∷ 32767 ∷ v ∷ 1 ∷ []) ∷
    of 70000 (32767 ∷ 0 ∷ 32767 ∷ 0 ∷ 4466 ∷ []) (v ∷ 32767 ∷ v ∷ 32767 ∷ v ∷ 4466 ∷ []) ∷
    of 98301 (32767 ∷ 0 ∷ 32767 ∷ 0 ∷ 32767 ∷ []) (v ∷ 32767 ∷ v ∷ 32767 ∷ v ∷ 32767 ∷ []) ∷
    []

-- every case is as the definitions give it, for every value. `all_cut` proves it.
abbrev pub AllCut : Type 0
AllCut = (v : ℕ) → map (computed v) (cases v) ≡ cases v
