-- Type 10: the pairs from where a run starts, and how many words there are.
use Rattle.std.specs.Prelude.{ℕ, suc, ◌+◌, ◌-◌, ◌*◌, ◌≤◌, ◌<◌, ◌≡◌, Bool, true, false, cond, List, [], ◌∷◌, ◌++◌, length, get_or, drop, eqb}
use Rattle.std.proofs.Common.{sym, ◌∙◌, ap, append-nil, add-zero, arith, length-append, drop_of_length-le, drop-cons}
use Rattle.cutting.specs.Pieces.{value_pieces}
use Rattle.cutting.proofs.Laws.Rule.{by_pieces, pairs-cut}
use Rattle.codec.specs.PairPixels.{value_runs, pair_words}
use Rattle.codec.specs.Leading.{leading}
use Rattle.codec.proofs.Laws.Leading.{run-behind, run-size}

-- at most two words for each pixel
length-pieces : (v n : ℕ) → 1 ≤ n → length (value_pieces v n) ≤ 2 * n
length-pieces v =
    by_pieces (λ n. 1 ≤ n → length (value_pieces v n) ≤ 2 * n)
    (λ n h l. omega (arith, ap length ((pairs-cut v).up_to_32767 n h)))
    (λ n h ih l. let i = ih (omega arith) in omega (arith, ap length ((pairs-cut v).above_32767 n h)))

-- a run that holds n pixels so far takes those of its value that follow
value_run : (v n : ℕ) (l : List ℕ)
    → value_runs v n l ≡ value_pieces v (n + leading v l) ++ pair_words (drop (leading v l) l)
unfolding value_runs pair_words leading
value_run v n [] = rw (add-zero n) (sym (append-nil (value_pieces v n)))
value_run v n (x ∷ r) = go (eqb x v) (value_run v (n + 1) r)
  where
    go : (b : Bool) → value_runs v (n + 1) r ≡ value_pieces v (n + 1 + leading v r) ++ pair_words (drop (leading v r) r)
        → let k = n + cond b (suc (leading v r)) 0 in
        cond b (value_runs v (n + 1) r) (value_pieces v n ++ value_runs x 1 r)
        ≡ value_pieces v k ++ pair_words (drop (cond b (suc (leading v r)) 0) (x ∷ r))
    go true ih =
        let e : n + 1 + leading v r ≡ n + suc (leading v r) = omega arith in
        ih ∙ ap (λ (k : ℕ). value_pieces v k ++ pair_words (drop (leading v r) r)) e
    go false ih = rw (add-zero n)

-- the run that starts at pixel i
pub next_pair : (row : List ℕ) (i e : ℕ) → i < length row → e ≡ i + 1 + leading (get_or row i 0) (drop (i + 1) row)
    → pair_words (drop i row) ≡ value_pieces (get_or row i 0) (e - i) ++ pair_words (drop e row)
unfolding pair_words
next_pair row i e h g =
    let v = get_or row i 0 in
    rw (drop-cons row i 0 h, value_run v 1 (drop (suc i) row), run-behind row i e v g, run-size row i e v g)

pub no_pair : (row : List ℕ) (i : ℕ) → length row ≤ i → pair_words (drop i row) ≡ []
unfolding pair_words
no_pair row i h = rw (drop_of_length-le row {i = i} h)

length_runs : (v n : ℕ) (l : List ℕ) → 1 ≤ n → length (value_runs v n l) ≤ 2 * (n + length l)
unfolding value_runs
length_runs v n [] h = omega (arith, length-pieces v n h)
length_runs v n (x ∷ r) h = go (eqb x v) (length_runs v (n + 1) r (omega arith)) (length_runs x 1 r (omega arith))
  where
    go : (b : Bool) → length (value_runs v (n + 1) r) ≤ 2 * (n + 1 + length r) → length (value_runs x 1 r) ≤ 2 * (1 + length r)
        → length (cond b (value_runs v (n + 1) r) (value_pieces v n ++ value_runs x 1 r)) ≤ 2 * (n + suc (length r))
    go true same other = omega arith
    go false same other = omega (arith, length-append (value_pieces v n) (value_runs x 1 r), length-pieces v n h)

pub length-pair_words : (row : List ℕ) → length (pair_words row) ≤ 2 * length row
unfolding pair_words
length-pair_words [] = omega arith
length-pair_words (x ∷ r) = omega (arith, length_runs x 1 r (omega arith))
