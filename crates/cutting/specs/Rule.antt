-- The cutting rule as laws, for runs of every length.
use Rattle.std.specs.Prelude.{ℕ, ◌+◌, ◌-◌, ◌*◌, ◌≤◌, ◌<◌, ◌≡◌, get_or, replicate}
use mathlib.Core.List.{List, [], ◌∷◌, ◌++◌, foldr}
use Rattle.cutting.specs.Pieces.{pieces, level_pieces, value_pieces}

-- `cut n` is the words of a run of n pixels, where `piece k` is those of one piece of k pixels and `between` stands between two:
-- up to 32,767 the run is one piece; above, it is a full piece, what stands between, then the pieces of the rest.
pub record CutBy (piece : ℕ → List ℕ) (between : List ℕ) (cut : ℕ → List ℕ) : Type 0 where
  pub up_to_32767 : (n : ℕ) → n ≤ 32767 → cut n ≡ piece n
  pub above_32767 : (n : ℕ) → 32767 < n → cut n ≡ piece 32767 ++ (between ++ cut (n - 32767))

-- `cutting_rule` proves it.
pub record CuttingRule : Type 0 where
  -- the pieces alone
  pub sizes : CutBy (λ k. k ∷ []) [] pieces
  -- type 9, of either level: a zero run between
  pub runs : CutBy (λ k. k ∷ []) (0 ∷ []) level_pieces
  -- type 10, of every value: nothing between
  pub pairs : (v : ℕ) → CutBy (λ k. v ∷ (k ∷ [])) [] (value_pieces v)

-- No two functions have the two laws, so they say all that there is to know of either. `only_rule` proves it.
abbrev pub OnlyRule : Type 0
OnlyRule =
    (piece : ℕ → List ℕ) (between : List ℕ) (f g : ℕ → List ℕ) → CutBy piece between f → CutBy piece between g → (n : ℕ) → f n ≡ g n

-- What follows of the pieces of a run of n pixels.
pub record PiecesOf (n : ℕ) (ps : List ℕ) : Type 0 where
  pub total : foldr ◌+◌ 0 ps ≡ n
  pub at_most : (j : ℕ) → get_or ps j 0 ≤ 32767
  -- As many full pieces as n holds and the rest, last. A multiple of 32,767 ends with a full piece, not with one of 0.
  pub rest_last : (full rest : ℕ) → n ≡ 32767 * full + rest → 0 < rest → rest ≤ 32767 → ps ≡ replicate full 32767 ++ (rest ∷ [])

-- `all_pieces` proves it.
abbrev pub AllPieces : Type 0
AllPieces = (n : ℕ) → PiecesOf n (pieces n)
