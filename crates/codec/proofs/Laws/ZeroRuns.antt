-- Type 9: the zero runs of a body, word by word.
use Rattle.std.specs.Prelude.{ℕ, zero, suc, ◌+◌, ◌-◌, ◌≤◌, ◌<◌, ◌≡◌, refl, Bool, true, false, cond, List, [], ◌∷◌, ◌++◌, length, get_or, eqb}
use Rattle.std.proofs.Common.{zero-le, sym, ◌∙◌, ap, append-nil, add-one, arith, eqb-true}
use Rattle.std.proofs.lemmas.Bool.{eqb-false}
use Rattle.cutting.specs.Pieces.{level_pieces}
use Rattle.cutting.proofs.Laws.Rule.{by_pieces, runs_cut, empty_run}
use Rattle.codec.specs.RunPixels.{level_runs, cut_levels, run_words}
use Rattle.codec.specs.ZeroRuns.{AllZeroRuns}

-- Words behind a word p: none is above 32,767, and one that is 0 and not the last stands behind 32,767 and before more pixels.
abbrev pub Needed : ℕ → List ℕ → Type 0
Needed p [] = Unit {0}
Needed p (w ∷ r) = (w ≤ 32767) × ((w ≡ 0 → 0 < length r → (p ≡ 32767) × (0 < get_or r 0 0)) × Needed w r)

needed_at : (p : ℕ) (ws : List ℕ) → Needed p ws → (j : ℕ) → suc j < length ws → get_or ws j 0 ≡ 0
    → (get_or (p ∷ ws) j 0 ≡ 32767) × (0 < get_or ws (suc j) 0)
needed_at p [] c j h e = absurd (omega arith)
needed_at p (w ∷ r) c zero h e = c.1.0 e (omega arith)
needed_at p (w ∷ r) c (suc j) h e = needed_at w r c.1.1 j (omega arith) e

needed_most : (p : ℕ) (ws : List ℕ) → Needed p ws → (j : ℕ) → get_or ws j 0 ≤ 32767
needed_most p [] c j = zero-le
needed_most p (w ∷ r) c zero = c.0
needed_most p (w ∷ r) c (suc j) = needed_most w r c.1.1 j

-- the same of words that start with one of pixels, whatever stands before them
abbrev Starting : ℕ → List ℕ → Type 0
Starting p ws = (0 < get_or ws 0 0) × Needed p ws

starting : (n : ℕ) (r : List ℕ) (p : ℕ) → 0 < n → n ≤ 32767 → Needed n r → Starting p (n ∷ r)
starting n r p h l c = (h, (l, (λ z g. absurd (omega arith), c)))

-- the pieces of a run of n pixels, and what follows it
run_needed : (r : List ℕ) → ((q : ℕ) → Needed q r) → (n : ℕ) → 0 < n → (p : ℕ) → Starting p (level_pieces n ++ r)
run_needed r c =
    by_pieces (λ n. 0 < n → (p : ℕ) → Starting p (level_pieces n ++ r))
    (λ n h g p. rw (runs_cut.up_to_32767 n h) (starting n r p g h (c n)))
    (λ n h ih g p. let i = ih (omega arith) 0 in
    rw (runs_cut.above_32767 n h)
    (starting 32767 (0 ∷ (level_pieces (n - 32767) ++ r)) p (omega arith) (omega arith) (zero-le, (λ z s. (refl, i.0), i.1))))

-- the runs of a row, from one that holds n pixels of level v so far
runs_needed : (v n : ℕ) (row : List ℕ) → 0 < n → (p : ℕ) → Starting p (cut_levels (level_runs v n row))
unfolding level_runs cut_levels
runs_needed v n [] h p = go (eqb v 0)
  where
    go : (b : Bool) → Starting p (cut_levels (cond b (n ∷ []) (n ∷ (0 ∷ []))))
    go true = run_needed [] (λ q. tt) n h p
    go false = rw empty_run (run_needed (0 ∷ []) (λ q. (zero-le, (λ z s. absurd (omega arith), tt))) n h p)
runs_needed v n (x ∷ r) h p = go (eqb x v) (runs_needed v (n + 1) r (omega arith) p) (λ q. (runs_needed (1 - v) 1 r (omega arith) q).1)
  where
    go : (b : Bool) → Starting p (cut_levels (level_runs v (n + 1) r)) → ((q : ℕ) → Needed q (cut_levels (level_runs (1 - v) 1 r)))
        → Starting p (cut_levels (cond b (level_runs v (n + 1) r) (n ∷ level_runs (1 - v) 1 r)))
    go true same other = same
    go false same other = run_needed (cut_levels (level_runs (1 - v) 1 r)) other n h p

-- all words of a row: a first word of 0 stands before pixels, or alone
pub row_needed : (row : List ℕ) → Needed 32767 (run_words row)
unfolding level_runs cut_levels
row_needed [] = rw empty_run (zero-le, (λ z s. absurd (omega arith), tt))
row_needed (x ∷ r) = go (eqb x 0)
  where
    go : (b : Bool) → Needed 32767 (cut_levels (cond b (level_runs 0 (0 + 1) r) (0 ∷ level_runs (1 - 0) 1 r)))
    go true = (runs_needed 0 1 r (omega arith) 32767).1
    go false = let i = runs_needed 1 1 r (omega arith) 0 in rw empty_run (zero-le, (λ z s. (refl, i.0), i.1))

-- the last of a word p and the words behind it
abbrev final : ℕ → List ℕ → ℕ
final p [] = p
final p (w ∷ r) = final w r

final-append : (p : ℕ) (a b : List ℕ) → final p (a ++ b) ≡ final (final p a) b
final-append p [] b = refl
final-append p (x ∷ a) b = final-append x a b

final_at : (p : ℕ) (ws : List ℕ) → get_or (p ∷ ws) (length ws) 0 ≡ final p ws
final_at p [] = refl
final_at p (w ∷ r) = final_at w r

last_is : (ws : List ℕ) → get_or ws (length ws - 1) 0 ≡ final 0 ws
last_is [] = refl
last_is (w ∷ r) = let e : suc (length r) - 1 ≡ length r = omega arith in ap (λ (k : ℕ). get_or (w ∷ r) k 0) e ∙ final_at w r

pieces-final : (n : ℕ) → 0 < n → (p : ℕ) → 0 < final p (level_pieces n)
pieces-final =
    by_pieces (λ n. 0 < n → (p : ℕ) → 0 < final p (level_pieces n))
    (λ n h g p. rw (runs_cut.up_to_32767 n h) g)
    (λ n h ih g p. rw (runs_cut.above_32767 n h) (ih (omega arith) 0))

-- the last word is 0 only where the last pixel is 1
abbrev Levels : List ℕ → Type 0
Levels row = (k : ℕ) → k < length row → get_or row k 0 ≤ 1

runs_final : (v n : ℕ) (row : List ℕ) → 0 < n → v ≤ 1 → Levels row → (p : ℕ) → final p (cut_levels (level_runs v n row)) ≡ 0
    → get_or (v ∷ row) (length row) 0 ≡ 1
unfolding level_runs cut_levels
runs_final v n [] h l b p = go (eqb v 0) refl
  where
    go : (t : Bool) → eqb v 0 ≡ t → final p (cut_levels (cond t (n ∷ []) (n ∷ (0 ∷ [])))) ≡ 0 → v ≡ 1
    go true e z =
        absurd (let g : 0 < final p (level_pieces n) = pieces-final n h p in
        omega (arith, ap (final p) (append-nil (level_pieces n))))
    go false e z = let d : v ≡ 0 → ⊥ = eqb-false v 0 e in omega arith
runs_final v n (x ∷ r) h l b p =
    let t : Levels r = λ k g. b (suc k) (omega arith) in
    go (eqb x v) refl (runs_final v (n + 1) r (omega arith) l t p) (runs_final (1 - v) 1 r (omega arith) (omega arith) t)
  where
    go : (s : Bool) → eqb x v ≡ s → (final p (cut_levels (level_runs v (n + 1) r)) ≡ 0 → get_or (v ∷ r) (length r) 0 ≡ 1)
        → ((q : ℕ) → final q (cut_levels (level_runs (1 - v) 1 r)) ≡ 0 → get_or ((1 - v) ∷ r) (length r) 0 ≡ 1)
        → final p (cut_levels (cond s (level_runs v (n + 1) r) (n ∷ level_runs (1 - v) 1 r))) ≡ 0
        → get_or (x ∷ r) (length r) 0 ≡ 1
    go true e same other z = ap (λ (y : ℕ). get_or (y ∷ r) (length r) 0) (eqb-true x v e) ∙ same z
    go false e same other z =
        let d : x ≡ v → ⊥ = eqb-false x v e in
        let a : x ≤ 1 = b 0 (omega arith) in
        let w : x ≡ 1 - v = omega arith in
        ap (λ (y : ℕ). get_or (y ∷ r) (length r) 0) w
        ∙ other (final p (level_pieces n)) (sym (final-append p (level_pieces n) (cut_levels (level_runs (1 - v) 1 r))) ∙ z)

-- the same of the whole row, with what its first word says
ends : (x : ℕ) (r : List ℕ) → Levels (x ∷ r)
    → (get_or (run_words (x ∷ r)) 0 0 ≡ 0 → x ≡ 1) × (final 0 (run_words (x ∷ r)) ≡ 0 → get_or (x ∷ r) (length r) 0 ≡ 1)
unfolding level_runs cut_levels
ends x r b = go (eqb x 0) refl
  where
    t : Levels r
    t k g = b (suc k) (omega arith)

    go : (s : Bool) → eqb x 0 ≡ s → let words = cut_levels (cond s (level_runs 0 (0 + 1) r) (0 ∷ level_runs (1 - 0) 1 r)) in
        (get_or words 0 0 ≡ 0 → x ≡ 1) × (final 0 words ≡ 0 → get_or (x ∷ r) (length r) 0 ≡ 1)
    go true e =
        let i = runs_needed 0 1 r (omega arith) 0 in
        (λ z. absurd (omega arith), λ z. ap (λ (y : ℕ). get_or (y ∷ r) (length r) 0) (eqb-true x 0 e) ∙ runs_final 0 1 r (omega arith) (omega arith) t 0 z)
    go false e =
        let d : x ≡ 0 → ⊥ = eqb-false x 0 e in
        let a : x ≤ 1 = b 0 (omega arith) in
        let w : x ≡ 1 = omega arith in
        rw empty_run (λ z. w, λ z. ap (λ (y : ℕ). get_or (y ∷ r) (length r) 0) w ∙ runs_final 1 1 r (omega arith) (omega arith) t 0 z)

between_at : (ws : List ℕ) → Needed 32767 ws → (j : ℕ) → 0 < j → j + 1 < length ws → get_or ws j 0 ≡ 0
    → (get_or ws (j - 1) 0 ≡ 32767) × (0 < get_or ws (j + 1) 0)
between_at ws c zero h g z = absurd (omega arith)
between_at ws c (suc j) h g z =
    let e : suc j - 1 ≡ j = omega arith in
    rw (e, add-one (suc j)) (needed_at 32767 ws c (suc j) (omega arith) z)

pub zero_runs : AllZeroRuns
zero_runs [] h b = absurd (omega arith)
zero_runs (x ∷ r) h b =
    let c = row_needed (x ∷ r) in
    let e = ends x r b in
    let k : suc (length r) - 1 ≡ length r = omega arith in
    record {
      between = between_at (run_words (x ∷ r)) c;
      first_on = e.0;
      last_on = λ z. ap (λ (i : ℕ). get_or (x ∷ r) i 0) k ∙ e.1 (sym (last_is (run_words (x ∷ r))) ∙ z);
      most = needed_most 32767 (run_words (x ∷ r)) c;
    }
