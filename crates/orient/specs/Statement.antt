-- What is proved of turning, once for every number that stands for the orientation, and so for all eight codes.
use Rattle.std.specs.Prelude.{ℕ, ◌+◌, ◌*◌, ◌≤◌, ◌<◌, ◌≡◌, List, ◌++◌, length, get_or, take}
use Rattle.orient.specs.Orientation.{width, height, column_of, row_of, place_of, place, source, turned, turned_back}

-- "Each source pixel lands in exactly one place and each place is filled once": a sheet and its picture have as many pixels, and
-- `place` and `source` undo each other among them.
pub record OneToOne (slo p n : ℕ) : Type 0 where
  pub size : height slo p n * width slo p n ≡ n * p
  pub turned-size : (pixels : List ℕ) → length (turned slo p n pixels) ≡ n * p
  pub back_size : (upright : List ℕ) → length (turned_back slo p n upright) ≡ n * p
  pub place_within : (j : ℕ) → j < n * p → place slo p n j < n * p
  pub source_within : (q : ℕ) → q < n * p → source slo p n q < n * p
  pub source-place : (j : ℕ) → j < n * p → source slo p n (place slo p n j) ≡ j
  pub place-source : (q : ℕ) → q < n * p → place slo p n (source slo p n q) ≡ q

abbrev pub AllOneToOne : Type 0
AllOneToOne = (slo p n : ℕ) → OneToOne slo p n

-- Pixel i of line k lies within the picture, and there it is in its row and column: so `turned` is the picture of the paper's
-- sentences, whatever one thinks of `source`.
pub record Upright (slo p n k i : ℕ) : Type 0 where
  pub row_within : row_of slo p n k i < height slo p n
  pub column_within : column_of slo p n k i < width slo p n
  pub turned_there : (pixels : List ℕ) → get_or (turned slo p n pixels) (place_of slo p n k i) 0 ≡ get_or pixels (k * p + i) 0
  pub back_from_there : (upright : List ℕ) → get_or (turned_back slo p n upright) (k * p + i) 0 ≡ get_or upright (place_of slo p n k i) 0

abbrev pub AllUpright : Type 0
AllUpright = (slo p n k i : ℕ) → k < n → i < p → Upright slo p n k i

-- "Turning back gives the sheet again", and turning a picture that was turned back gives the picture again, whatever lies past them.
pub record TurnsBack (slo p n : ℕ) (given rest : List ℕ) : Type 0 where
  pub sheet-again : turned_back slo p n (turned slo p n given ++ rest) ≡ take (n * p) given
  pub picture-again : turned slo p n (turned_back slo p n given ++ rest) ≡ take (n * p) given

abbrev pub AllTurnBack : Type 0
AllTurnBack = (slo p n : ℕ) (given rest : List ℕ) → n * p ≤ length given → TurnsBack slo p n given rest
