-- Type 10: the pairs of a row, read back.
use Rattle.std.specs.Prelude.{ℕ, suc, ◌+◌, ◌-◌, ◌*◌, ◌%◌, ◌<◌, ◌≡◌, refl, Bool, true, false, cond, List, [], ◌∷◌, ◌++◌, length, replicate, eqb}
use Rattle.std.proofs.Common.{sym, ap, ◌∙◌, append_assoc, append-nil, arith, le-ltb, eq-eqb, ne_eqb, eqb-true, length-append}
use Rattle.std.proofs.lemmas.List.{length-replicate, replicate-append-replicate}
use Rattle.units.specs.Counts.{word_bytes}
use Rattle.units.specs.Words.{words}
use Rattle.cutting.specs.Pieces.{value_pieces}
use Rattle.cutting.proofs.Laws.Rule.{by_pieces, pairs-cut}
use Rattle.codec.specs.PairPixels.{pair_pixels, pair_total, pairs_from, pair_extent, value_runs, pair_words, pair_body}
use Rattle.codec.specs.Codec.{taken}
use Rattle.units.proofs.Laws.Words.{words-before}
use Rattle.units.proofs.Laws.Below.{AllBelow, all_append}
use Rattle.codec.proofs.Laws.RoundTripWords.{both_used, all_used, one_more}

-- The pieces of a run of n pixels of value v: it is one pair, or a full piece and the pieces of what is left.
data Pieces : ℕ → ℕ → List ℕ → Type 0 where
  whole : {v n : ℕ} → n < 65536 → Pieces v n (v ∷ (n ∷ []))
  more : {v n k m : ℕ} {ws : List ℕ} → n ≡ k + m → 0 < m → k < 65536 → Pieces v m ws → Pieces v n (v ∷ (k ∷ ws))

run-pieces : (v n : ℕ) → Pieces v n (value_pieces v n)
run-pieces v =
    by_pieces (λ n. Pieces v n (value_pieces v n))
    (λ n h. rw ((pairs-cut v).up_to_32767 n h) (whole {n = n} (omega arith)))
    (λ n h ih. rw ((pairs-cut v).above_32767 n h) (more {n = n} {k = 32767} {m = n - 32767} (omega arith) (omega arith) (omega arith) ih))

-- The words of a row from a run of value v on, which holds n pixels so far.
data Turns : ℕ → ℕ → List ℕ → List ℕ → Type 0 where
  ends : {v n : ℕ} {ws : List ℕ} → Pieces v n ws → Turns v n [] ws
  same : {v n : ℕ} {row ws : List ℕ} → Turns v (n + 1) row ws → Turns v n (v ∷ row) ws
  turn : {v w n : ℕ} {row ps ws all : List ℕ} → Pieces v n ps → Turns w 1 row ws → all ≡ ps ++ ws → Turns v n (w ∷ row) all

turns_step : (v n x : ℕ) (row a ps b : List ℕ) (goes : Bool) → eqb x v ≡ goes
    → Turns v (n + 1) row a → Pieces v n ps → Turns x 1 row b → Turns v n (x ∷ row) (cond goes a (ps ++ b))
turns_step v n x row a ps b true e s p t = rw (eqb-true x v e) (same s)
turns_step v n x row a ps b false e s p t = turn p t refl

turns : (v n : ℕ) (row : List ℕ) → Turns v n row (value_runs v n row)
unfolding value_runs
turns v n [] = ends (run-pieces v n)
turns v n (x ∷ row) =
    turns_step v n x row (value_runs v (n + 1) row) (value_pieces v n) (value_runs x 1 row) (eqb x v) refl
    (turns v (n + 1) row) (run-pieces v n) (turns x 1 row)

-- the pixels: a run of n, whole or in pieces
pieces-pixels : {v n : ℕ} {ws : List ℕ} → Pieces v n ws → (r : List ℕ) → pair_pixels (ws ++ r) ≡ replicate n v ++ pair_pixels r
unfolding pair_pixels
pieces-pixels (whole l) r = refl
pieces-pixels (more {v = v} {k = k} {m = m} e z l p) r =
    rw (pieces-pixels p r, e, ← replicate-append-replicate k m v, append_assoc)

turns_pixels : {v n : ℕ} {row ws : List ℕ} → Turns v n row ws → pair_pixels ws ≡ replicate n v ++ row
unfolding pair_pixels
turns_pixels (ends {ws = ws} p) = rw (append-nil ws) at (pieces-pixels p [])
turns_pixels (same {v = v} {n = n} {row = row} t) = turns_pixels t ∙ one_more n v row
turns_pixels (turn {ws = ws} p t e) = rw (e, pieces-pixels p ws, turns_pixels t)

-- the counts hold as many pixels as there are
pub length-pair_pixels : (ws : List ℕ) → length (pair_pixels ws) ≡ pair_total ws
unfolding pair_pixels pair_total
length-pair_pixels [] = refl
length-pair_pixels (v ∷ []) = refl
length-pair_pixels (v ∷ (n ∷ r)) =
    rw (length-append (replicate n v) (pair_pixels r), length-replicate n v, length-pair_pixels r)

-- an even number of words
pieces_even : {v n : ℕ} {ws : List ℕ} → Pieces v n ws → length ws % 2 ≡ 0
pieces_even (whole l) = refl
pieces_even (more e z l p) = omega (arith, pieces_even p)

turns_even : {v n : ℕ} {row ws : List ℕ} → Turns v n row ws → length ws % 2 ≡ 0
turns_even (ends p) = pieces_even p
turns_even (same t) = turns_even t
turns_even (turn {ps = ps} {ws = ws} p t e) = rw (e, length-append ps ws) (omega (arith, pieces_even p, turns_even t))

-- each below 65,536
pieces_below : {v n : ℕ} {ws : List ℕ} → Pieces v n ws → v < 65536 → AllBelow 65536 ws
pieces_below (whole l) h = (h, (l, tt))
pieces_below (more e z l p) h = (h, (l, pieces_below p h))

turns_below : {v n : ℕ} {row ws : List ℕ} → Turns v n row ws → v < 65536 → AllBelow 65536 row → AllBelow 65536 ws
turns_below (ends p) h b = pieces_below p h
turns_below (same t) h b = turns_below t h b.1
turns_below (turn {ps = ps} {ws = ws} p t e) h b =
    rw e (all_append 65536 ps ws (pieces_below p h) (turns_below t b.0 b.1))

-- Without headers: a pair that is not the last is passed, and the line ends after the last one.
pair_passed : (left v n : ℕ) (ws : List ℕ) (used : ℕ) → n < left
    → pairs_from left (v ∷ (n ∷ ws)) used ≡ pairs_from (left - n) ws (used + 4)
unfolding pairs_from
pair_passed left v n ws used h = rw (le-ltb left n (omega arith), ne_eqb left n (λ q. omega arith))

pair_ends : (v n : ℕ) (ws : List ℕ) (used : ℕ) → pairs_from n (v ∷ (n ∷ ws)) used ≡ taken (used + 4)
unfolding pairs_from
pair_ends v n ws used = rw (le-ltb n n (omega arith), eq-eqb n n refl)

pieces_passed : {v n : ℕ} {ws : List ℕ} → Pieces v n ws → (left : ℕ) (r : List ℕ) (used : ℕ) → n < left
    → pairs_from left (ws ++ r) used ≡ pairs_from (left - n) r (used + word_bytes (length ws))
pieces_passed (whole {v = v} {n = n} l) left r used g = pair_passed left v n r used g
pieces_passed (more {v = v} {n = n} {k = k} {m = m} {ws = ws} e z l p) left r used g =
    let j : left - k - m ≡ left - n = omega arith in
    let u : used + 4 + 2 * length ws ≡ used + 2 * suc (suc (length ws)) = omega arith in
    pair_passed left v k (ws ++ r) used (omega arith) ∙ rw (pieces_passed p (left - k) r (used + 4) (omega arith), j, u)

pieces_end : {v n : ℕ} {ws : List ℕ} → Pieces v n ws → (r : List ℕ) (used : ℕ)
    → pairs_from n (ws ++ r) used ≡ taken (used + word_bytes (length ws))
pieces_end (whole {v = v} {n = n} l) r used = pair_ends v n r used
pieces_end (more {v = v} {n = n} {k = k} {m = m} {ws = ws} e z l p) r used =
    let j : n - k ≡ m = omega arith in
    let u : used + 4 + 2 * length ws ≡ used + 2 * suc (suc (length ws)) = omega arith in
    pair_passed n v k (ws ++ r) used (omega arith) ∙ rw (j, pieces_end p r (used + 4), u)

turns_taken : {v n : ℕ} {row ws : List ℕ} → Turns v n row ws → (left : ℕ) (rest : List ℕ) (used : ℕ) → left ≡ n + length row
    → pairs_from left (ws ++ rest) used ≡ taken (used + word_bytes (length ws))
turns_taken (ends {n = n} p) left rest used e =
    let q : left ≡ n = omega arith in
    rw q (pieces_end p rest used)
turns_taken (same t) left rest used e = turns_taken t left rest used (omega arith)
turns_taken (turn {n = n} {ps = ps} {ws = ws} p t q) left rest used e =
    rw (q, append_assoc ps ws rest)
    (pieces_passed p left (ws ++ rest) used (omega arith)
    ∙ turns_taken t (left - n) rest (used + word_bytes (length ps)) (omega arith)
    ∙ both_used used ps ws)

pub pairs-pixels : (row : List ℕ) → pair_pixels (pair_words row) ≡ row
unfolding pair_words pair_pixels
pairs-pixels [] = refl
pairs-pixels (x ∷ row) = turns_pixels (turns x 1 row)

pub pairs_total : (row : List ℕ) → pair_total (pair_words row) ≡ length row
pairs_total row = sym (length-pair_pixels (pair_words row)) ∙ ap length (pairs-pixels row)

pub pairs_even : (row : List ℕ) → length (pair_words row) % 2 ≡ 0
unfolding pair_words
pairs_even [] = refl
pairs_even (x ∷ row) = turns_even (turns x 1 row)

pub pairs_below : (row : List ℕ) → AllBelow 65536 row → AllBelow 65536 (pair_words row)
unfolding pair_words
pairs_below [] b = tt
pairs_below (x ∷ row) b = turns_below (turns x 1 row) b.0 b.1

pub pairs_extent : (row : List ℕ) → 0 < length row → (rest : List ℕ)
    → pair_extent (pair_body row ++ rest) (length row) ≡ taken (length (pair_body row))
unfolding pair_words
pairs_extent [] h rest = absurd (omega arith)
pairs_extent (x ∷ row) h rest =
    rw (words-before (value_runs x 1 row) rest)
    (turns_taken (turns x 1 row) (suc (length row)) (words rest) 0 (omega arith) ∙ all_used (value_runs x 1 row))
