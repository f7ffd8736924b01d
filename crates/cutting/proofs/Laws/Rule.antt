-- The two laws, and that they leave no choice.
use Rattle.std.specs.Prelude.{ℕ, zero, suc, ◌-◌, ◌≤◌, ◌<◌, ◌≡◌, refl, Bool, true, false, cond, List, [], ◌∷◌, ◌++◌, leb}
use Rattle.std.proofs.Common.{zero-le, sym, ◌∙◌, arith, leb-true, leb-false, le-leb}
use Rattle.std.proofs.Math.Path.{ap}
use Rattle.std.proofs.lemmas.Bool.{lt-leb}
use Rattle.cutting.specs.Pieces.{pieces_within, pieces, joined, level_pieces, value_pieces}
use Rattle.cutting.specs.Rule.{CutBy, CuttingRule, OnlyRule}

-- What holds of runs up to 32,767, and of a longer run where it holds of the rest, holds of every run.
pub by_pieces : (P : ℕ → Type 0) → ((n : ℕ) → n ≤ 32767 → P n) → ((n : ℕ) → 32767 < n → P (n - 32767) → P n) → (n : ℕ) → P n
by_pieces P short long n = within n n (omega arith)
  where
    step : (n : ℕ) (b : Bool) → leb n 32767 ≡ b → (32767 < n → P (n - 32767)) → P n
    step n true e rest = short n (leb-true n 32767 e)
    step n false e rest = let h : 32767 < n = leb-false n 32767 e in long n h (rest h)

    within : (bound n : ℕ) → n ≤ bound → P n
    within zero n h = short n (omega arith)
    within (suc bound) n h = step n (leb n 32767) refl (λ g. within bound (n - 32767) (omega arith))

pub only_rule : OnlyRule
only_rule piece between f g a b =
    by_pieces (λ n. f n ≡ g n)
    (λ n h. a.up_to_32767 n (omega arith) ∙ sym (b.up_to_32767 n (omega arith)))
    (λ n h ih. a.above_32767 n (omega arith) ∙ ap (λ (r : List ℕ). piece 32767 ++ (between ++ r)) ih ∙ sym (b.above_32767 n (omega arith)))

-- A function that takes off at most so many full pieces has the two laws where the bound is the run's own length.
module _ (piece : ℕ → List ℕ) (between : List ℕ) (within : ℕ → ℕ → List ℕ) (none : (n : ℕ) → within 0 n ≡ piece n)
    (one : (bound n : ℕ) → within (suc bound) n ≡ cond (leb n 32767) (piece n) (piece 32767 ++ (between ++ within bound (n - 32767)))) where
  short : (n : ℕ) → n ≤ 32767 → (bound : ℕ) → within bound n ≡ piece n
  short n h zero = none n
  short n h (suc bound) = one bound n ∙ rw (le-leb n 32767 h)

  long : (n : ℕ) → 32767 < n → (bound : ℕ) → within (suc bound) n ≡ piece 32767 ++ (between ++ within bound (n - 32767))
  long n h bound = one bound n ∙ rw (lt-leb n 32767 h)

  -- a bound does not matter where it is enough
  enough : (n a b : ℕ) → n ≤ a → n ≤ b → within a n ≡ within b n
  enough =
      by_pieces (λ n. (a b : ℕ) → n ≤ a → n ≤ b → within a n ≡ within b n)
      (λ n h a b c d. short n h a ∙ sym (short n h b))
      again
    where
      again : (n : ℕ) → 32767 < n → ((a b : ℕ) → n - 32767 ≤ a → n - 32767 ≤ b → within a (n - 32767) ≡ within b (n - 32767))
          → (a b : ℕ) → n ≤ a → n ≤ b → within a n ≡ within b n
      again n h ih zero b c d = absurd (omega arith)
      again n h ih (suc a) zero c d = absurd (omega arith)
      again n h ih (suc a) (suc b) c d =
          long n h a ∙ ap (λ (r : List ℕ). piece 32767 ++ (between ++ r)) (ih a b (omega arith) (omega arith)) ∙ sym (long n h b)

  pub bounded_cut : CutBy piece between (λ n. within n n)
  bounded_cut = record { up_to_32767 = λ n h. short n (omega arith) n; above_32767 = λ n h. above n (omega arith) }
    where
      above : (n : ℕ) → 32767 < n → within n n ≡ piece 32767 ++ (between ++ within (n - 32767) (n - 32767))
      above zero h = absurd (omega arith)
      above (suc m) h =
          long (suc m) h m
          ∙ ap (λ (r : List ℕ). piece 32767 ++ (between ++ r)) (enough (suc m - 32767) m (suc m - 32767) (omega arith) (omega arith))

pub sizes_cut : CutBy (λ k. k ∷ []) [] pieces
unfolding pieces pieces_within
sizes_cut = bounded_cut (λ k. k ∷ []) [] pieces_within (λ n. refl) (λ bound n. refl)

-- the words of pieces, whatever a piece is and stands between
module _ (piece : ℕ → List ℕ) (between : List ℕ) where
  -- what follows a full piece starts with a piece
  full_first : (m : ℕ) → joined piece between (32767 ∷ pieces m) ≡ piece 32767 ++ (between ++ joined piece between (pieces m))
  unfolding joined
  full_first =
      by_pieces (λ m. joined piece between (32767 ∷ pieces m) ≡ piece 32767 ++ (between ++ joined piece between (pieces m)))
      (λ m h. rw (sizes_cut.up_to_32767 m h))
      (λ m h ih. rw (sizes_cut.above_32767 m h))

  joined-cut : CutBy piece between (λ n. joined piece between (pieces n))
  unfolding joined
  joined-cut =
      record {
        up_to_32767 = λ n h. rw (sizes_cut.up_to_32767 n h);
        above_32767 = λ n h. ap (joined piece between) (sizes_cut.above_32767 n h) ∙ full_first (n - 32767);
      }

pub runs_cut : CutBy (λ k. k ∷ []) (0 ∷ []) level_pieces
unfolding level_pieces
runs_cut = joined-cut (λ k. k ∷ []) (0 ∷ [])

-- a run of no pixels is one piece of 0
pub empty_run : level_pieces 0 ≡ 0 ∷ []
empty_run = runs_cut.up_to_32767 0 zero-le

pub pairs-cut : (v : ℕ) → CutBy (λ k. v ∷ (k ∷ [])) [] (value_pieces v)
unfolding value_pieces
pairs-cut v = joined-cut (λ k. v ∷ (k ∷ [])) []

pub cutting_rule : CuttingRule
cutting_rule = record { sizes = sizes_cut; runs = runs_cut; pairs = pairs-cut }
