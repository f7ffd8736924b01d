-- Pairs of words, value then count, taken from the front of a body: a pair from byte i on and what is after it, or the end.
use Rattle.std.specs.Prelude.{ℕ, suc, ◌+◌, ◌-◌, ◌≤◌, ◌<◌, ◌≡◌, Bool, true, false, cond, length, take, drop, replicate, eqb, ltb}
use Rattle.std.proofs.Math.Path.{refl}
use Rattle.std.proofs.Common.{◌∙◌, ap, arith, length-append, length-drop}
use mathlib.Core.List.{List, [], ◌∷◌, ◌++◌}
use Rattle.std.proofs.lemmas.List.{length-replicate}
use borrow.Author.Tests.{lt-ltb, le-ltb, eq-eqb, ne_eqb, ltb-false, eqb-true}
use Rattle.units.specs.Rules.{first}
use Rattle.units.proofs.Laws.Rules.{none_holds}
use Rattle.units.specs.Counts.{word_bytes}
use Rattle.units.specs.Words.{words}
use Rattle.units.proofs.Laws.Words.{length-words, words_step, words_take}
use Rattle.units.specs.LittleEndian.{u16_at}
use Rattle.codec.specs.PairPixels.{pair_pixels, pair_total, pair_rules, pairs_from}
use Rattle.codec.specs.Extent.{Extent}
use Rattle.codec.specs.Codec.{taken, fault}

module _ (b : List ℕ) (i : ℕ) (more : i + 4 ≤ length b) where
  pub pair_words_lem : words (drop i b) ≡ u16_at b i ∷ (u16_at b (i + 2) ∷ words (drop (i + 4) b))
  pair_words_lem =
      let e : i + 2 + 2 ≡ i + 4 = omega arith in
      words_step b i (omega arith)
      ∙ ap (λ (ws : List ℕ). u16_at b i ∷ ws) (words_step b (i + 2) (omega arith))
      ∙ ap (λ (j : ℕ). u16_at b i ∷ (u16_at b (i + 2) ∷ words (drop j b))) e

  pub pair_total_lem : pair_total (words (drop i b)) ≡ u16_at b (i + 2) + pair_total (words (drop (i + 4) b))
  unfolding pair_total
  pair_total_lem = rw pair_words_lem

  pub pair_pixels_lem : pair_pixels (words (drop i b)) ≡ replicate (u16_at b (i + 2)) (u16_at b i) ++ pair_pixels (words (drop (i + 4) b))
  unfolding pair_pixels
  pair_pixels_lem = rw pair_words_lem

  pub pair_over : (left : ℕ) → left < u16_at b (i + 2) → pairs_from left (words (drop i b)) i ≡ fault 7
  unfolding pairs_from
  pair_over left h = rw (pair_words_lem, lt-ltb left (u16_at b (i + 2)) h)

  pub pair_full : (left : ℕ) → left ≡ u16_at b (i + 2) → pairs_from left (words (drop i b)) i ≡ taken (i + 4)
  unfolding pairs_from
  pair_full left h = rw (pair_words_lem, le-ltb left (u16_at b (i + 2)) (omega arith), eq-eqb left (u16_at b (i + 2)) h)

  pub pair_more : (left : ℕ) → u16_at b (i + 2) < left
      → pairs_from left (words (drop i b)) i ≡ pairs_from (left - u16_at b (i + 2)) (words (drop (i + 4) b)) (i + 4)
  unfolding pairs_from
  pair_more left h = rw (pair_words_lem, le-ltb left (u16_at b (i + 2)) (omega arith), ne_eqb left (u16_at b (i + 2)) (λ q. omega arith))

-- fewer than four bytes are left: no pair
no_pair : {A : Type 0} (f : List ℕ → A) (z : A) → f [] ≡ z → ((v : ℕ) → f (v ∷ []) ≡ z) → (ws : List ℕ) → length ws < 2 → f ws ≡ z
no_pair f z none one [] h = none
no_pair f z none one (v ∷ []) h = one v
no_pair f z none one (v ∷ (n ∷ ws)) h = absurd (let l : length (v ∷ (n ∷ ws)) ≡ suc (suc (length ws)) = refl in omega arith)

module _ (b : List ℕ) (i : ℕ) (less : length b < i + 4) where
  few : length (words (drop i b)) < 2
  few = omega (arith, length-words (drop i b), length-drop i b)

  pub end_total : pair_total (words (drop i b)) ≡ 0
  unfolding pair_total
  end_total = no_pair pair_total 0 refl (λ v. refl) (words (drop i b)) few

  pub end_pixels : pair_pixels (words (drop i b)) ≡ []
  unfolding pair_pixels
  end_pixels = no_pair pair_pixels [] refl (λ v. refl) (words (drop i b)) few

  pub end_from : (left : ℕ) → pairs_from left (words (drop i b)) i ≡ fault 1
  unfolding pairs_from
  end_from left = no_pair (λ (ws : List ℕ). pairs_from left ws i) (fault 1) refl (λ v. refl) (words (drop i b)) few

-- a row that the pairs fill has their total
pub length-pair_pixels : (ws : List ℕ) → length (pair_pixels ws) ≡ pair_total ws
unfolding pair_pixels pair_total
length-pair_pixels [] = refl
length-pair_pixels (v ∷ []) = refl
length-pair_pixels (v ∷ (n ∷ ws)) =
    rw (length-append (replicate n v) (pair_pixels ws), length-replicate n v, length-pair_pixels ws)

-- a body with the status 0
pub pairs_fit : (b : List ℕ) (p : ℕ) → first (pair_rules b p) ≡ 0 → pair_total (words b) ≡ p
pairs_fit b p h =
    let none = none_holds (pair_rules b p) tt h in
    omega (arith, ltb-false p (pair_total (words b)) none.1.0, ltb-false (pair_total (words b)) p none.1.1.0)

-- What is taken where there is no fault: words from the front, whose counts total what was left.
record Whole (left : ℕ) (ws : List ℕ) (before : ℕ) (e : Extent) : Type 0 where
  count : ℕ
  within : count ≤ length ws
  bytes : e.used.0 ≡ before + word_bytes count
  total : pair_total (take count ws) ≡ left

whole-step : (left before v n : ℕ) (ws : List ℕ) (rest : Extent) (over full : Bool) → ltb left n ≡ over → eqb left n ≡ full
    → (rest.status ≡ 0 → Whole (left - n) ws (before + word_bytes 2) rest)
    → (cond over (fault 7) (cond full (taken (before + word_bytes 2)) rest)).status ≡ 0
    → Whole left (v ∷ (n ∷ ws)) before (cond over (fault 7) (cond full (taken (before + word_bytes 2)) rest))
unfolding pair_total
whole-step left before v n ws rest true full a b ih h = absurd (omega arith)
whole-step left before v n ws rest false true a b ih h = record {
  count = 2;
  within = omega arith;
  bytes = refl;
  total = omega (arith, eqb-true left n b);
}
whole-step left before v n ws rest false false a b ih h =
    let w = ih h in record {
      count = suc (suc w.count);
      within = omega arith;
      bytes = omega arith;
      total = omega (arith, ltb-false left n a);
    }

whole : (left : ℕ) (ws : List ℕ) (before : ℕ) → (pairs_from left ws before).status ≡ 0 → Whole left ws before (pairs_from left ws before)
unfolding pairs_from
whole left [] before h = absurd (omega arith)
whole left (v ∷ []) before h = absurd (omega arith)
whole left (v ∷ (n ∷ ws)) before h =
    whole-step left before v n ws (pairs_from (left - n) ws (before + word_bytes 2)) (ltb left n) (eqb left n) refl refl
    (whole (left - n) ws (before + word_bytes 2)) h

pub pairs-taken : (r : List ℕ) (p : ℕ) (e : Extent) → e ≡ pairs_from p (words r) 0 → e.status ≡ 0
    → (e.used.0 ≤ length r) × (pair_total (words (take e.used.0 r)) ≡ p)
pairs-taken r p e q h =
    let w : Whole p (words r) 0 e = rw q (whole p (words r) 0 (rw q at h)) in
    let n : e.used.0 ≡ word_bytes w.count = omega arith in
    (omega (arith, length-words r), rw (n, words_take r w.count) w.total)
