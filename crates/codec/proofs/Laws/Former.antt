-- The former cuttings have the two laws of the cutting rule too, so they are the same.
use Rattle.std.specs.Prelude.{ℕ, ◌+◌, ◌≡◌, refl, List, [], ◌∷◌}
use Rattle.std.proofs.Common.{ap}
use Rattle.units.specs.Words.{words_to_bytes}
use Rattle.cutting.specs.Pieces.{level_pieces, value_pieces}
use Rattle.cutting.proofs.Laws.Rule.{runs_cut, pairs-cut, only_rule, bounded_cut}
use Rattle.codec.specs.RunPixels.{level_runs, cut_levels}
use Rattle.codec.specs.PairPixels.{value_runs, pair_words}
use Rattle.codec.specs.Former.{former_level_pieces, former_cut_levels, former_value_pieces, former_value_runs, former_pair_words, BytesStay}

same_levels : (n : ℕ) → level_pieces n ≡ former_level_pieces n n
unfolding former_level_pieces
same_levels =
    only_rule (λ k. k ∷ []) (0 ∷ []) level_pieces (λ n. former_level_pieces n n) runs_cut
    (bounded_cut (λ k. k ∷ []) (0 ∷ []) former_level_pieces (λ n. refl) (λ bound n. refl))

same_values : (v n : ℕ) → value_pieces v n ≡ former_value_pieces v n n
unfolding former_value_pieces
same_values v =
    only_rule (λ k. v ∷ (k ∷ [])) [] (value_pieces v) (λ n. former_value_pieces v n n) (pairs-cut v)
    (bounded_cut (λ k. v ∷ (k ∷ [])) [] (former_value_pieces v) (λ n. refl) (λ bound n. refl))

same_cut : (runs : List ℕ) → cut_levels runs ≡ former_cut_levels runs
unfolding cut_levels former_cut_levels
same_cut [] = refl
same_cut (n ∷ r) = rw (same_levels n, same_cut r)

same_runs : (v n : ℕ) (row : List ℕ) → value_runs v n row ≡ former_value_runs v n row
unfolding value_runs former_value_runs
same_runs v n [] = same_values v n
same_runs v n (x ∷ r) = rw (same_values v n, same_runs v (n + 1) r, same_runs x 1 r)

same_pairs : (row : List ℕ) → pair_words row ≡ former_pair_words row
unfolding pair_words former_pair_words
same_pairs [] = refl
same_pairs (x ∷ r) = same_runs x 1 r

pub bytes_stay : BytesStay
bytes_stay =
    record {
      runs = λ row. ap words_to_bytes (same_cut (level_runs 0 0 row));
      pairs = λ row. ap words_to_bytes (same_pairs row);
    }
