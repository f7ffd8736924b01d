-- What is written for a row that is one run; and case 11, such rows of type 9 above 32,767.
use Rattle.std.specs.Prelude.{ℕ, ◌<◌, ◌≡◌, [], ◌∷◌, ◌++◌, replicate}
use Rattle.cutting.specs.Pieces.{level_pieces, value_pieces}
use Rattle.codec.specs.RunPixels.{run_words}
use Rattle.codec.specs.PairPixels.{pair_words}

-- The words of n pixels, all OFF, all ON or all of one value: the run's pieces, in type 9 with the empty OFF runs that a line which
-- starts and ends ON needs.
pub record OneRun (n : ℕ) : Type 0 where
  pub off : run_words (replicate n 0) ≡ level_pieces n
  pub on : 0 < n → run_words (replicate n 1) ≡ 0 ∷ (level_pieces n ++ (0 ∷ []))
  pub value : (v : ℕ) → 0 < n → pair_words (replicate n v) ≡ value_pieces v n

-- `one-run` proves it.
abbrev pub AllOneRun : Type 0
AllOneRun = (n : ℕ) → OneRun n

abbrev pub Off32768 : Type 0
Off32768 = run_words (replicate 32768 0) ≡ 32767 ∷ 0 ∷ 1 ∷ []

abbrev pub On32768 : Type 0
On32768 = run_words (replicate 32768 1) ≡ 0 ∷ 32767 ∷ 0 ∷ 1 ∷ 0 ∷ []
