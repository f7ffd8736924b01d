-- Type 9: the runs of a row, read back.
use Rattle.std.specs.Prelude.{ℕ, zero, suc, ◌+◌, ◌-◌, ◌*◌, ◌%◌, ◌≤◌, ◌<◌, ◌≡◌, refl, Bool, true, false, cond, List, [], ◌∷◌, ◌++◌, length, replicate, eqb}
use Rattle.std.proofs.Common.{sym, ap, ◌∙◌, append_assoc, append-nil, arith, le-ltb, eq-eqb, ne_eqb, eqb-true, length-append}
use Rattle.std.proofs.lemmas.Bool.{eqb-false}
use Rattle.std.proofs.lemmas.List.{replicate-append-replicate}
use Rattle.units.specs.Counts.{word_bytes}
use Rattle.units.specs.Words.{words}
use Rattle.cutting.specs.Pieces.{level_pieces}
use Rattle.cutting.proofs.Laws.Rule.{by_pieces, runs_cut, empty_run}
use Rattle.codec.specs.RunPixels.{run_pixels, run_total, runs_from, run_extent, level_runs, cut_levels, run_words, run_body}
use Rattle.codec.specs.Codec.{taken}
use Rattle.codec.proofs.Laws.RunReading.{length-run_pixels}
use Rattle.units.proofs.Laws.Words.{words-before}
use Rattle.units.proofs.Laws.Below.{AllBelow}
use Rattle.codec.proofs.Laws.RoundTripWords.{both_used, all_used, one_more}
use Rattle.codec.proofs.Laws.ZeroRuns.{Needed, row_needed}

-- The pieces of a run of n pixels: it is one word, or a full piece, a run of 0 of the other level, and the pieces of what is left.
data Pieces : ℕ → List ℕ → Type 0 where
  whole : {n : ℕ} → Pieces n (n ∷ [])
  more : {n k m : ℕ} {ws : List ℕ} → n ≡ k + m → 0 < m → Pieces m ws → Pieces n (k ∷ (0 ∷ ws))

run-pieces : (n : ℕ) → Pieces n (level_pieces n)
run-pieces =
    by_pieces (λ n. Pieces n (level_pieces n))
    (λ n h. rw (runs_cut.up_to_32767 n h) whole)
    (λ n h ih. rw (runs_cut.above_32767 n h) (more {n = n} {k = 32767} {m = n - 32767} (omega arith) (omega arith) ih))

-- The runs of a row of 0 and 1 from a run of level v on, which holds n pixels so far.
data Turns : ℕ → ℕ → List ℕ → List ℕ → Type 0 where
  ends_off : {n : ℕ} → Turns 0 n [] (n ∷ [])
  ends_on : {n : ℕ} → Turns 1 n [] (n ∷ (0 ∷ []))
  same : {v n : ℕ} {row runs : List ℕ} → Turns v (n + 1) row runs → Turns v n (v ∷ row) runs
  turn : {v w n : ℕ} {row runs : List ℕ} → v ≤ 1 → w ≡ 1 - v → Turns w 1 row runs → Turns v n (w ∷ row) (n ∷ runs)

turns_end : (v n : ℕ) (off : Bool) → v ≤ 1 → eqb v 0 ≡ off → Turns v n [] (cond off (n ∷ []) (n ∷ (0 ∷ [])))
turns_end zero n true h e = ends_off
turns_end (suc v) n true h e = absurd (omega (arith, eqb-true (suc v) 0 e))
turns_end zero n false h e = absurd (eqb-false 0 0 e refl)
turns_end (suc zero) n false h e = ends_on
turns_end (suc (suc v)) n false h e = absurd (omega arith)

turns_step : (v n x : ℕ) (row a b : List ℕ) (goes : Bool) → v ≤ 1 → x < 2 → eqb x v ≡ goes
    → Turns v (n + 1) row a → Turns (1 - v) 1 row b → Turns v n (x ∷ row) (cond goes a (n ∷ b))
turns_step v n x row a b true h l e s t = rw (eqb-true x v e) (same s)
turns_step v n x row a b false h l e s t =
    let d : x ≡ v → ⊥ = eqb-false x v e in
    let q : x ≡ 1 - v = omega (arith, d) in
    rw q (turn h refl t)

turns : (v n : ℕ) (row : List ℕ) → v ≤ 1 → AllBelow 2 row → Turns v n row (level_runs v n row)
unfolding level_runs
turns v n [] h b = turns_end v n (eqb v 0) h refl
turns v n (x ∷ row) h b =
    turns_step v n x row (level_runs v (n + 1) row) (level_runs (1 - v) 1 row) (eqb x v) h b.0 refl
    (turns v (n + 1) row h b.1) (turns (1 - v) 1 row (omega arith) b.1)

-- the pixels: a run of n, whole or in pieces
pieces-pixels : {n : ℕ} {ws : List ℕ} → Pieces n ws → (v : ℕ) (r : List ℕ) → v ≤ 1
    → run_pixels v (ws ++ r) ≡ replicate n v ++ run_pixels (1 - v) r
unfolding run_pixels
pieces-pixels whole v r h = refl
pieces-pixels (more {n = n} {k = k} {m = m} {ws = ws} e z p) v r h =
    let f : 1 - (1 - v) ≡ v = omega arith in
    rw (f, pieces-pixels p v r h, e, ← replicate-append-replicate k m v, append_assoc)

turns_pixels : {v n : ℕ} {row runs : List ℕ} → Turns v n row runs → run_pixels v (cut_levels runs) ≡ replicate n v ++ row
unfolding cut_levels run_pixels
turns_pixels (ends_off {n = n}) = pieces-pixels (run-pieces n) 0 [] (omega arith)
turns_pixels (ends_on {n = n}) = rw empty_run (pieces-pixels (run-pieces n) 1 (0 ∷ []) (omega arith))
turns_pixels (same {v = v} {n = n} {row = row} t) = turns_pixels t ∙ one_more n v row
turns_pixels (turn {v = v} {w = w} {n = n} {row = row} {runs = runs} h e t) =
    pieces-pixels (run-pieces n) v (cut_levels runs) h ∙ rw (← e, turns_pixels t)

-- an odd number of words
pieces_odd : {n : ℕ} {ws : List ℕ} → Pieces n ws → length ws % 2 ≡ 1
pieces_odd whole = refl
pieces_odd (more e z p) = omega (arith, pieces_odd p)

cut_odd : (runs : List ℕ) → length (cut_levels runs) % 2 ≡ length runs % 2
unfolding cut_levels
cut_odd [] = refl
cut_odd (n ∷ runs) =
    rw (length-append (level_pieces n) (cut_levels runs)) (omega (arith, pieces_odd (run-pieces n), cut_odd runs))

turns_odd : {v n : ℕ} {row runs : List ℕ} → Turns v n row runs → length runs % 2 ≡ 1 - v
turns_odd ends_off = refl
turns_odd ends_on = refl
turns_odd (same t) = turns_odd t
turns_odd (turn h e t) = omega (arith, turns_odd t)

-- Without headers: a run that is not the last is passed, and the line ends after the last one.
run_passed : (v left n : ℕ) (ws : List ℕ) (used : ℕ) → n ≤ left → (v ≡ 0 → left ≡ n → ⊥)
    → runs_from v left (n ∷ ws) used ≡ runs_from (1 - v) (left - n) ws (used + 2)
unfolding runs_from
run_passed zero left n ws used h d = rw (le-ltb left n h, ne_eqb left n (d refl))
run_passed (suc v) left n ws used h d = rw (le-ltb left n h, ne_eqb (suc v) 0 (λ q. omega arith))

run_ends : (n : ℕ) (ws : List ℕ) (used : ℕ) → runs_from 0 n (n ∷ ws) used ≡ taken (used + 2)
unfolding runs_from
run_ends n ws used = rw (le-ltb n n (omega arith), eq-eqb n n refl)

pieces_passed : {n : ℕ} {ws : List ℕ} → Pieces n ws → (v left : ℕ) (r : List ℕ) (used : ℕ) → v ≤ 1 → n ≤ left → (v ≡ 0 → left ≡ n → ⊥)
    → runs_from v left (ws ++ r) used ≡ runs_from (1 - v) (left - n) r (used + word_bytes (length ws))
pieces_passed (whole {n = n}) v left r used h g d = run_passed v left n r used g d
pieces_passed (more {n = n} {k = k} {m = m} {ws = ws} e z p) v left r used h g d =
    let f : 1 - (1 - v) ≡ v = omega arith in
    let i : left - k - 0 ≡ left - k = omega arith in
    let j : left - k - m ≡ left - n = omega arith in
    let u : used + 2 + 2 + 2 * length ws ≡ used + 2 * suc (suc (length ws)) = omega arith in
    run_passed v left k (0 ∷ (ws ++ r)) used (omega arith) (λ a b. omega arith)
    ∙ run_passed (1 - v) (left - k) 0 (ws ++ r) (used + 2) (omega arith) (λ a b. omega arith)
    ∙ rw (f, i, pieces_passed p v (left - k) r (used + 2 + 2) h (omega arith) (λ a b. d a (omega arith)), j, u)

pieces_end : {n : ℕ} {ws : List ℕ} → Pieces n ws → (r : List ℕ) (used : ℕ)
    → runs_from 0 n (ws ++ r) used ≡ taken (used + word_bytes (length ws))
pieces_end (whole {n = n}) r used = run_ends n r used
pieces_end (more {n = n} {k = k} {m = m} {ws = ws} e z p) r used =
    let j : n - k - 0 ≡ m = omega arith in
    let u : used + 2 + 2 + 2 * length ws ≡ used + 2 * suc (suc (length ws)) = omega arith in
    run_passed 0 n k (0 ∷ (ws ++ r)) used (omega arith) (λ a b. omega arith)
    ∙ run_passed 1 (n - k) 0 (ws ++ r) (used + 2) (omega arith) (λ a b. omega arith)
    ∙ rw (j, pieces_end p r (used + 2 + 2), u)

turns_taken : {v n : ℕ} {row runs : List ℕ} → Turns v n row runs → (left : ℕ) (rest : List ℕ) (used : ℕ) → left ≡ n + length row
    → runs_from v left (cut_levels runs ++ rest) used ≡ taken (used + word_bytes (length (cut_levels runs)))
unfolding cut_levels
turns_taken (ends_off {n = n}) left rest used e =
    let q : left ≡ n = omega arith in
    rw (q, append-nil (level_pieces n)) (pieces_end (run-pieces n) rest used)
turns_taken (ends_on {n = n}) left rest used e =
    let z : left - n ≡ 0 = omega arith in
    rw (append-nil (level_pieces 0), append_assoc (level_pieces n) (level_pieces 0) rest)
    (pieces_passed (run-pieces n) 1 left (level_pieces 0 ++ rest) used (omega arith) (omega arith) (λ a b. omega arith)
    ∙ rw z (pieces_end (run-pieces 0) rest (used + word_bytes (length (level_pieces n))))
    ∙ both_used used (level_pieces n) (level_pieces 0))
turns_taken (same {n = n} t) left rest used e = turns_taken t left rest used (omega arith)
turns_taken (turn {v = v} {w = w} {n = n} {row = row} {runs = runs} h q t) left rest used e =
    rw (append_assoc (level_pieces n) (cut_levels runs) rest)
    (pieces_passed (run-pieces n) v left (cut_levels runs ++ rest) used h (omega arith) (λ a b. omega arith)
    ∙ rw (← q) (turns_taken t (left - n) rest (used + word_bytes (length (level_pieces n))) (omega arith))
    ∙ both_used used (level_pieces n) (cut_levels runs))

-- a row of 0 and 1
module _ (row : List ℕ) (levels : AllBelow 2 row) where
  its_turns : Turns 0 0 row (level_runs 0 0 row)
  its_turns = turns 0 0 row (omega arith) levels

  pub runs_pixels : run_pixels 0 (run_words row) ≡ row
  runs_pixels = turns_pixels its_turns

  pub runs_total : run_total (run_words row) ≡ length row
  runs_total = sym (length-run_pixels 0 (run_words row)) ∙ ap length runs_pixels

  pub runs_odd : length (run_words row) % 2 ≡ 1
  runs_odd = cut_odd (level_runs 0 0 row) ∙ turns_odd its_turns

  pub runs_extent : (rest : List ℕ) → run_extent (run_body row ++ rest) (length row) ≡ taken (length (run_body row))
  runs_extent rest =
      rw (words-before (run_words row) rest)
      (turns_taken its_turns (length row) (words rest) 0 (omega arith) ∙ all_used (run_words row))

-- each word is below 65,536
needed_below : (p : ℕ) (ws : List ℕ) → Needed p ws → AllBelow 65536 ws
needed_below p [] c = tt
needed_below p (w ∷ r) c = let l : w ≤ 32767 = c.0 in (omega arith, needed_below w r c.1.1)

pub runs_below : (row : List ℕ) → AllBelow 65536 (run_words row)
runs_below row = needed_below 32767 (run_words row) (row_needed row)
