-- A run of equal pixels is counted by a law, and how it is cut in case 11 is computed.
use Rattle.std.specs.Prelude.{ℕ, zero, suc, ◌+◌, ◌<◌, ◌≡◌, refl, List, [], ◌∷◌, ◌++◌, replicate}
use Rattle.std.proofs.Common.{◌∙◌, ap, append-nil, arith, eq-eqb}
use Rattle.cutting.specs.Pieces.{pieces_within, pieces, joined, level_pieces, value_pieces}
use Rattle.cutting.proofs.Laws.Rule.{empty_run}
use Rattle.codec.specs.RunPixels.{level_runs, cut_levels, run_words}
use Rattle.codec.specs.PairPixels.{value_runs, pair_words}
use Rattle.edges.specs.Written.{AllOneRun, Off32768, On32768}

-- `runs` counts the pixels of its own level or value on
module _ (runs : ℕ → ℕ → List ℕ → List ℕ) (more : (v k : ℕ) (r : List ℕ) → runs v k (v ∷ r) ≡ runs v (k + 1) r) where
  counted : (v k n : ℕ) → runs v k (replicate n v) ≡ runs v (k + n) []
  counted v k zero = ap (λ (m : ℕ). runs v m []) (let e : k ≡ k + 0 = omega arith in e)
  counted v k (suc n) =
      more v k (replicate n v) ∙ counted v (k + 1) n
      ∙ ap (λ (m : ℕ). runs v m []) (let e : k + 1 + n ≡ k + suc n = omega arith in e)

levels_counted : (v k n : ℕ) → level_runs v k (replicate n v) ≡ level_runs v (k + n) []
unfolding level_runs
levels_counted = counted level_runs (λ v k r. rw (eq-eqb v v refl))

values_counted : (v k n : ℕ) → value_runs v k (replicate n v) ≡ value_runs v (k + n) []
unfolding value_runs
values_counted = counted value_runs (λ v k r. rw (eq-eqb v v refl))

off_run : (n : ℕ) → run_words (replicate n 0) ≡ level_pieces n
unfolding level_runs cut_levels
off_run n = let e : 0 + n ≡ n = omega arith in rw (levels_counted 0 0 n, e) (append-nil (level_pieces n))

on_run : (n : ℕ) → 0 < n → run_words (replicate n 1) ≡ 0 ∷ (level_pieces n ++ (0 ∷ []))
unfolding level_runs cut_levels
on_run zero h = absurd (omega arith)
on_run (suc n) h = let e : 1 + n ≡ suc n = omega arith in rw (levels_counted 1 1 n, e, empty_run)

value_run : (v n : ℕ) → 0 < n → pair_words (replicate n v) ≡ value_pieces v n
unfolding pair_words value_runs
value_run v zero h = absurd (omega arith)
value_run v (suc n) h = let e : 1 + n ≡ suc n = omega arith in rw (values_counted v 1 n, e)

pub one-run : AllOneRun
one-run n = record { off = off_run n; on = λ h. on_run n (omega arith); value = λ v h. value_run v n (omega arith) }

pub off_32768 : Off32768
unfolding pieces_within pieces joined level_pieces
off_32768 = (one-run 32768).off

pub on_32768 : On32768
unfolding pieces_within pieces joined level_pieces
on_32768 = (one-run 32768).on (omega arith)
