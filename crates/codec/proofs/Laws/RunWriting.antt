-- Type 9: the runs from where one starts, and how many words there are.
use Rattle.std.specs.Prelude.{ℕ, zero, suc, ◌+◌, ◌-◌, ◌≤◌, ◌<◌, ◌≡◌, Bool, true, false, cond, List, [], ◌∷◌, ◌++◌, length, drop, eqb}
use Rattle.std.proofs.Common.{◌∙◌, ap, add-zero, zero-add, arith, length-append, drop_of_length-le, drop-cons}
use Rattle.std.proofs.Math.Dec.{eqb-suc-zero}
use Rattle.cutting.specs.Pieces.{level_pieces}
use Rattle.cutting.proofs.Laws.Rule.{by_pieces, runs_cut, empty_run}
use Rattle.codec.specs.RunPixels.{level_runs, cut_levels, run_words}
use Rattle.codec.specs.Leading.{leading}
use Rattle.codec.proofs.Laws.Leading.{run-behind, run-size}

-- a run of pixels has no more words than pixels
length-pieces : (n : ℕ) → 1 ≤ n → length (level_pieces n) ≤ n
length-pieces =
    by_pieces (λ n. 1 ≤ n → length (level_pieces n) ≤ n)
    (λ n h l. omega (arith, ap length (runs_cut.up_to_32767 n h)))
    (λ n h ih l. let i = ih (omega arith) in omega (arith, ap length (runs_cut.above_32767 n h)))

-- What is left where a run of level v starts: that run and those behind it, or only the last empty OFF run.
unfoldable pub next_runs : ℕ → List ℕ → List ℕ
next_runs v [] = cond (eqb v 0) (0 ∷ []) []
next_runs v (x ∷ r) = level_runs v 1 r

-- the words from pixel i on, where a run of level v starts
abbrev pub words_from : List ℕ → ℕ → ℕ → List ℕ
words_from row v i = cut_levels (next_runs v (drop i row))

-- a run that holds n pixels so far takes those of its level that follow
level-run : (v n : ℕ) (l : List ℕ) → level_runs v n l ≡ (n + leading v l) ∷ next_runs (1 - v) (drop (leading v l) l)
unfolding level_runs next_runs leading
level-run zero n [] = rw (add-zero n)
level-run (suc v) n [] =
    let z : 1 - suc v ≡ 0 = omega arith in
    rw (eqb-suc-zero v, z, add-zero n)
level-run v n (x ∷ r) = go (eqb x v) (level-run v (n + 1) r)
  where
    go : (b : Bool) → level_runs v (n + 1) r ≡ (n + 1 + leading v r) ∷ next_runs (1 - v) (drop (leading v r) r)
        → cond b (level_runs v (n + 1) r) (n ∷ level_runs (1 - v) 1 r)
        ≡ (n + cond b (suc (leading v r)) 0) ∷ next_runs (1 - v) (drop (cond b (suc (leading v r)) 0) (x ∷ r))
    go true ih =
        let e : n + 1 + leading v r ≡ n + suc (leading v r) = omega arith in
        ih ∙ ap (λ (k : ℕ). k ∷ next_runs (1 - v) (drop (leading v r) r)) e
    go false ih = rw (add-zero n)

-- the first run of a row, and one that starts at pixel i
pub first_run : (row : List ℕ) (e : ℕ) → e ≡ leading 0 row → run_words row ≡ level_pieces e ++ words_from row 1 e
unfolding cut_levels
first_run row e h = rw (level-run 0 0 row, zero-add (leading 0 row), h)

pub next_run : (row : List ℕ) (i e v : ℕ) → i < length row → e ≡ i + 1 + leading v (drop (i + 1) row)
    → words_from row v i ≡ level_pieces (e - i) ++ words_from row (1 - v) e
unfolding next_runs cut_levels
next_run row i e v h g =
    rw (drop-cons row i 0 h, level-run v 1 (drop (suc i) row), run-behind row i e v g, run-size row i e v g)

-- no run starts past the end, but the last empty one where it is OFF's turn
pub no_run_on : (row : List ℕ) (i : ℕ) → length row ≤ i → words_from row 1 i ≡ []
unfolding next_runs cut_levels
no_run_on row i h = rw (drop_of_length-le row {i = i} h)

pub no_run_off : (row : List ℕ) (i : ℕ) → length row ≤ i → words_from row 0 i ≡ 0 ∷ []
unfolding next_runs cut_levels
no_run_off row i h = rw (drop_of_length-le row {i = i} h, empty_run)

length_runs : (v n : ℕ) (l : List ℕ) → 1 ≤ n → length (cut_levels (level_runs v n l)) ≤ n + length l + 1
unfolding level_runs cut_levels
length_runs v n [] h = go (eqb v 0)
  where
    go : (b : Bool) → length (cut_levels (cond b (n ∷ []) (n ∷ (0 ∷ [])))) ≤ n + 0 + 1
    go true = omega (arith, length-append (level_pieces n) [], length-pieces n h)
    go false = rw empty_run (omega (arith, length-append (level_pieces n) (0 ∷ []), length-pieces n h))
length_runs v n (x ∷ r) h = go (eqb x v) (length_runs v (n + 1) r (omega arith)) (length_runs (1 - v) 1 r (omega arith))
  where
    go : (b : Bool) → length (cut_levels (level_runs v (n + 1) r)) ≤ n + 1 + length r + 1
        → length (cut_levels (level_runs (1 - v) 1 r)) ≤ 1 + length r + 1
        → length (cut_levels (cond b (level_runs v (n + 1) r) (n ∷ level_runs (1 - v) 1 r))) ≤ n + suc (length r) + 1
    go true same other = omega arith
    go false same other =
        omega (arith, length-append (level_pieces n) (cut_levels (level_runs (1 - v) 1 r)), length-pieces n h)

pub length-run_words : (row : List ℕ) → length (run_words row) ≤ length row + 2
unfolding level_runs cut_levels
length-run_words [] = rw empty_run (omega arith)
length-run_words (x ∷ r) = go (eqb x 0)
  where
    go : (b : Bool) → length (cut_levels (cond b (level_runs 0 (0 + 1) r) (0 ∷ level_runs (1 - 0) 1 r))) ≤ suc (length r) + 2
    go true = omega (arith, length_runs 0 (0 + 1) r (omega arith))
    go false = rw empty_run (omega (arith, length_runs (1 - 0) 1 r (omega arith)))
