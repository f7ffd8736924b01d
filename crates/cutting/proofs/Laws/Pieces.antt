-- What follows from the two laws.
use Rattle.std.specs.Prelude.{ℕ, zero, suc, ◌+◌, ◌-◌, ◌*◌, ◌≤◌, ◌<◌, ◌≡◌, get_or, replicate}
use Rattle.std.proofs.Common.{zero-le, ◌∙◌, ap, arith}
use mathlib.Core.List.{List, [], ◌∷◌, ◌++◌, foldr}
use Rattle.cutting.specs.Pieces.{pieces}
use Rattle.cutting.specs.Rule.{AllPieces}
use Rattle.cutting.proofs.Laws.Rule.{by_pieces, sizes_cut}

total_is : (n : ℕ) → foldr ◌+◌ 0 (pieces n) ≡ n
total_is =
    by_pieces (λ n. foldr ◌+◌ 0 (pieces n) ≡ n)
    (λ n h. rw (sizes_cut.up_to_32767 n h) (omega arith))
    (λ n h ih. rw (sizes_cut.above_32767 n h) (omega arith))

-- no number of a list is above 32,767
abbrev Most : List ℕ → Type 0
Most ps = (j : ℕ) → get_or ps j 0 ≤ 32767

most_cons : (k : ℕ) (ps : List ℕ) → k ≤ 32767 → Most ps → Most (k ∷ ps)
most_cons k ps h r zero = h
most_cons k ps h r (suc j) = r j

most_is : (n : ℕ) → Most (pieces n)
most_is =
    by_pieces (λ n. Most (pieces n))
    (λ n h. rw (sizes_cut.up_to_32767 n h) (most_cons n [] h (λ j. zero-le)))
    (λ n h ih. rw (sizes_cut.above_32767 n h) (most_cons 32767 (pieces (n - 32767)) (omega arith) ih))

rest_is : (n full rest : ℕ) → n ≡ 32767 * full + rest → 0 < rest → rest ≤ 32767 → pieces n ≡ replicate full 32767 ++ (rest ∷ [])
rest_is n zero rest e l h = let z : n ≡ rest = omega arith in sizes_cut.up_to_32767 n (omega arith) ∙ ap (λ (k : ℕ). k ∷ []) z
rest_is n (suc full) rest e l h =
    sizes_cut.above_32767 n (omega arith) ∙ ap (λ (r : List ℕ). 32767 ∷ r) (rest_is (n - 32767) full rest (omega arith) l h)

pub all_pieces : AllPieces
all_pieces n =
    record {
      total = omega (arith, total_is n);
      at_most = λ j. omega (arith, most_is n j);
      rest_last = λ full rest e l h. rest_is n full rest e (omega arith) (omega arith);
    }
