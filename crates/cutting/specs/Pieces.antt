-- "A run above 32,767 is cut into pieces of 32,767 with the rest, if any, last, with a zero run of the other level between pieces in
-- type 9." docs/CUTTING.md leads through this crate; Rule.antt says the same by two laws.
use Rattle.std.specs.Prelude.{ℕ, zero, suc, ◌-◌, cond, List, [], ◌∷◌, ◌++◌, leb}

-- The pieces of a run of n pixels: full ones are taken off one by one. `bound` is there for the recursion to end and no more.
unfoldable pub pieces_within : ℕ → ℕ → List ℕ
pieces_within zero n = n ∷ []
pieces_within (suc bound) n =
    let rest = pieces_within bound (n - 32767) in
    cond (leb n 32767) (n ∷ []) (32767 ∷ rest)

unfoldable pub pieces : ℕ → List ℕ
pieces n = pieces_within n n

-- The words of pieces, where `piece k` is those of one piece of k pixels and `between` stands between two.
unfoldable pub joined : (ℕ → List ℕ) → List ℕ → List ℕ → List ℕ
joined piece between [] = []
joined piece between (n ∷ []) = piece n
joined piece between (n ∷ (m ∷ r)) = piece n ++ (between ++ joined piece between (m ∷ r))

-- Type 9, a run of either level: a piece is a word, and an empty run of the other level stands between two.
unfoldable pub level_pieces : ℕ → List ℕ
level_pieces n = joined (λ k. k ∷ []) (0 ∷ []) (pieces n)

-- Type 10, a run of value v: a piece is a pair, and nothing stands between.
unfoldable pub value_pieces : ℕ → ℕ → List ℕ
value_pieces v n = joined (λ k. v ∷ (k ∷ [])) [] (pieces n)
