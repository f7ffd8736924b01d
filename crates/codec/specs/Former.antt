-- The words of types 9 and 10 as they were defined before crate `cutting`, each type with its own cutting by a bound: what is written
-- for a row is the same, byte for byte.
use Rattle.std.specs.Prelude.{ℕ, zero, suc, ◌+◌, ◌-◌, ◌≡◌, cond, List, [], ◌∷◌, ◌++◌, eqb, leb}
use Rattle.units.specs.Words.{words_to_bytes}
use Rattle.codec.specs.RunPixels.{level_runs, run_body}
use Rattle.codec.specs.PairPixels.{pair_body}

unfoldable pub former_level_pieces : ℕ → ℕ → List ℕ
former_level_pieces zero n = n ∷ []
former_level_pieces (suc most) n =
    let rest = former_level_pieces most (n - 32767) in
    cond (leb n 32767) (n ∷ []) (32767 ∷ (0 ∷ rest))

unfoldable pub former_cut_levels : List ℕ → List ℕ
former_cut_levels [] = []
former_cut_levels (n ∷ r) = former_level_pieces n n ++ former_cut_levels r

unfoldable pub former_value_pieces : ℕ → ℕ → ℕ → List ℕ
former_value_pieces v zero n = v ∷ (n ∷ [])
former_value_pieces v (suc most) n =
    let rest = former_value_pieces v most (n - 32767) in
    cond (leb n 32767) (v ∷ (n ∷ [])) (v ∷ (32767 ∷ rest))

unfoldable pub former_value_runs : ℕ → ℕ → List ℕ → List ℕ
former_value_runs v n [] = former_value_pieces v n n
former_value_runs v n (x ∷ r) = cond (eqb x v) (former_value_runs v (n + 1) r) (former_value_pieces v n n ++ former_value_runs x 1 r)

unfoldable pub former_pair_words : List ℕ → List ℕ
former_pair_words [] = []
former_pair_words (x ∷ r) = former_value_runs x 1 r

-- of every row. `bytes_stay` proves it.
pub record BytesStay : Type 0 where
  pub runs : (row : List ℕ) → run_body row ≡ words_to_bytes (former_cut_levels (level_runs 0 0 row))
  pub pairs : (row : List ℕ) → pair_body row ≡ words_to_bytes (former_pair_words row)
