-- A sheet of two lines, 1 2 3 and 4 5 6, upright under each of the eight codes, with the picture's width. The corner where each
-- picture has its 1 is the guide's for that code.
use Rattle.std.specs.Prelude.{ℕ, ◌≡◌, List, [], ◌∷◌, map}
use Rattle.orient.specs.Orientation.{width, turned, turned_back}

pub record Corner : Type 0 where
  pub slo : ℕ
  pub across : ℕ
  pub upright : List ℕ

abbrev corner : ℕ → ℕ → List ℕ → Corner
corner s w l = record { slo = s; across = w; upright = l }

abbrev pub sheet : List ℕ
sheet = 1 ∷ 2 ∷ 3 ∷ 4 ∷ 5 ∷ 6 ∷ []

abbrev pub corners : List Corner
corners =
    corner 0 2 (1 ∷ 4 ∷ 2 ∷ 5 ∷ 3 ∷ 6 ∷ []) ∷
    corner 1 2 (4 ∷ 1 ∷ 5 ∷ 2 ∷ 6 ∷ 3 ∷ []) ∷
    corner 2 2 (3 ∷ 6 ∷ 2 ∷ 5 ∷ 1 ∷ 4 ∷ []) ∷
    corner 3 2 (6 ∷ 3 ∷ 5 ∷ 2 ∷ 4 ∷ 1 ∷ []) ∷
    corner 4 3 (1 ∷ 2 ∷ 3 ∷ 4 ∷ 5 ∷ 6 ∷ []) ∷
    corner 5 3 (3 ∷ 2 ∷ 1 ∷ 6 ∷ 5 ∷ 4 ∷ []) ∷
    corner 6 3 (4 ∷ 5 ∷ 6 ∷ 1 ∷ 2 ∷ 3 ∷ []) ∷
    corner 7 3 (6 ∷ 5 ∷ 4 ∷ 3 ∷ 2 ∷ 1 ∷ []) ∷
    []

-- what the definitions give of a row's code, and the sheet that they give back of its picture
abbrev pub made : Corner → Corner
made c = corner c.slo (width c.slo 3 2) (turned c.slo 3 2 sheet)

abbrev pub again : Corner → List ℕ
again c = turned_back c.slo 3 2 c.upright

-- `all_corners` proves it, by computing.
abbrev pub AllCorners : Type 0
AllCorners = (map made corners ≡ corners) × (map again corners ≡ map (λ (c : Corner). sheet) corners)
