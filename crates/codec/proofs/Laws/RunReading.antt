-- Type 9: laws of the runs of a body from byte i on, of its statuses, of what a line takes, and of the row that is painted.
use Rattle.std.specs.Prelude.{ℕ, suc, ◌+◌, ◌-◌, ◌*◌, ◌%◌, ◌≤◌, ◌<◌, ◌≡◌, refl, Bool, true, false, not, cond, ◌&&◌, ◌⊎◌, List, [], ◌∷◌, ◌++◌, length, take, drop, replicate, ltb, eqb}
use Rattle.std.proofs.Common.{ap, inl, inr, arith, length-append}
use borrow.Author.Tests.{lt-ltb, le-ltb, eq-eqb, ne_eqb, ltb-false, eqb-true, eqb-false, not-true}
use Rattle.std.proofs.lemmas.List.{length-replicate}
use Rattle.units.specs.LittleEndian.{u16_at}
use Rattle.units.specs.Rules.{first}
use Rattle.units.proofs.Laws.Rules.{none_holds, both_true}
use Rattle.units.specs.Words.{words, word_count}
use Rattle.units.proofs.Laws.Words.{words_step, words-none}
use Rattle.codec.specs.RunPixels.{run_pixels, run_total, run_rules, runs_from, run_extent}
use Rattle.codec.specs.Extent.{Extent}
use Rattle.codec.specs.Codec.{taken, fault}

-- the pixels from byte i on: one run and the rest, or none
module _ (b : List ℕ) (i : ℕ) where
  pub total_step : i + 2 ≤ length b → run_total (words (drop i b)) ≡ u16_at b i + run_total (words (drop (i + 2) b))
  unfolding run_total
  total_step h = rw (words_step b i h)

  pub total_none : length b < i + 2 → run_total (words (drop i b)) ≡ 0
  unfolding run_total
  total_none h = rw (words-none b i h)

  pub pixels-step : (v : ℕ) → i + 2 ≤ length b
      → run_pixels v (words (drop i b)) ≡ replicate (u16_at b i) v ++ run_pixels (1 - v) (words (drop (i + 2) b))
  unfolding run_pixels
  pixels-step v h = rw (words_step b i h)

  pub pixels-none : (v : ℕ) → length b < i + 2 → run_pixels v (words (drop i b)) ≡ []
  unfolding run_pixels
  pixels-none v h = rw (words-none b i h)

-- a row that the runs fill has their total
pub length-run_pixels : (v : ℕ) (ws : List ℕ) → length (run_pixels v ws) ≡ run_total ws
unfolding run_pixels run_total
length-run_pixels v [] = refl
length-run_pixels v (n ∷ r) =
    rw (length-append (replicate n v) (run_pixels (1 - v) r), length-replicate n v, length-run_pixels (1 - v) r)

-- the statuses, and what the status 0 says
module _ (b : List ℕ) (p : ℕ) where
  pub status_even : (word_count b).0 % 2 ≡ 0 → first (run_rules b p) ≡ 6
  status_even e = simp (eq-eqb _ _ e)

  pub status_above : ((word_count b).0 % 2 ≡ 0 → ⊥) → p < run_total (words b) → first (run_rules b p) ≡ 7
  status_above o h = simp (ne_eqb _ _ o, lt-ltb _ _ h)

  pub status_below : ((word_count b).0 % 2 ≡ 0 → ⊥) → run_total (words b) < p → first (run_rules b p) ≡ 8
  status_below o h = let g : run_total (words b) ≤ p = omega arith in simp (ne_eqb _ _ o, le-ltb _ _ g, lt-ltb _ _ h)

  pub status_good : ((word_count b).0 % 2 ≡ 0 → ⊥) → run_total (words b) ≡ p → first (run_rules b p) ≡ 0
  status_good o e =
      let g : run_total (words b) ≤ p = omega arith in
      let h : p ≤ run_total (words b) = omega arith in
      simp (ne_eqb _ _ o, le-ltb _ _ g, le-ltb _ _ h)

  pub status_total : first (run_rules b p) ≡ 0 → run_total (words b) ≡ p
  status_total e =
      let n = none_holds (run_rules b p) tt e in
      omega (arith, ltb-false p (run_total (words b)) n.1.0, ltb-false (run_total (words b)) p n.1.1.0)

-- What a line takes from byte i on: one run of n pixels and the rest, or none. The next run is ON or OFF, and `left` pixels
-- are to come.
abbrev pub level : Bool → ℕ
level on = cond on 1 0

-- not the last run: it is ON, or something is to come after it
not_last : (on : Bool) (left n : ℕ) → n ≤ left → (eqb (left - n) 0 ≡ false) ⊎ (on ≡ true)
    → (eqb (level on) 0 && eqb left n) ≡ false
not_last true left n h w = refl
not_last false left n h (inl e) = ne_eqb left n (λ q. eqb-false (left - n) 0 e (omega arith))
not_last false left n h (inr e) = ne_eqb left n (λ q. let z : ◌≡◌ {A = ℕ} 0 1 = ap level e in omega arith)

flip : (on : Bool) → 1 - level on ≡ level (not on)
flip true = refl
flip false = refl

pub extent_none : (r : List ℕ) (i v left : ℕ) → length r < i + 2 → runs_from v left (words (drop i r)) i ≡ fault 1
unfolding runs_from
extent_none r i v left h = rw (words-none r i h)

module _ (r : List ℕ) (i left n : ℕ) (on : Bool) (h : i + 2 ≤ length r) (e : n ≡ u16_at r i) where
  pub extent_above : left < n → runs_from (level on) left (words (drop i r)) i ≡ fault 7
  unfolding runs_from
  extent_above g = rw (words_step r i h, ← e, lt-ltb left n g)

  pub extent_last : n ≤ left → not on ≡ true → eqb (left - n) 0 ≡ true
      → runs_from (level on) left (words (drop i r)) i ≡ taken (i + 2)
  unfolding runs_from
  extent_last g f z =
      let q : left ≡ n = omega (arith, eqb-true (left - n) 0 z) in
      rw (words_step r i h, ← e, le-ltb left n g, not-true on f, eq-eqb left n q)

  pub extent_next : n ≤ left → (eqb (left - n) 0 ≡ false) ⊎ (on ≡ true)
      → runs_from (level on) left (words (drop i r)) i ≡ runs_from (level (not on)) (left - n) (words (drop (i + 2) r)) (i + 2)
  unfolding runs_from
  extent_next g w = rw (words_step r i h, ← e, le-ltb left n g, not_last on left n g w, flip on)

-- What is taken, where there is no fault: `size` bytes, whose runs total what was to come.
record Takes (r : List ℕ) (left before : ℕ) (e : Extent) : Type 0 where
  size : ℕ
  within : size ≤ length r
  adds : e.used.0 ≡ before + size
  total : run_total (words (take size r)) ≡ left

takes_run : (above last : Bool) (a b left before : ℕ) (r : List ℕ) (rest : Extent)
    → ltb left (a + 256 * b) ≡ above
    → (last ≡ true → left ≡ a + 256 * b)
    → (rest.status ≡ 0 → Takes r (left - (a + 256 * b)) (before + 2) rest)
    → (cond above (fault 7) (cond last (taken (before + 2)) rest)).status ≡ 0
    → Takes (a ∷ (b ∷ r)) left before (cond above (fault 7) (cond last (taken (before + 2)) rest))
unfolding words run_total
takes_run true last a b left before r rest h q ih z = absurd (omega arith)
takes_run false true a b left before r rest h q ih z =
    record { size = 2; within = omega arith; adds = refl; total = omega (arith, q refl) }
takes_run false false a b left before r rest h q ih z =
    let k = ih z in
    record {
      size = suc (suc k.size);
      within = omega arith;
      adds = omega arith;
      total = omega (arith, ltb-false left (a + 256 * b) h);
    }

takes : (v left before : ℕ) (r : List ℕ) → (runs_from v left (words r) before).status ≡ 0
    → Takes r left before (runs_from v left (words r) before)
unfolding words runs_from
takes v left before [] z = absurd (omega arith)
takes v left before (a ∷ []) z = absurd (omega arith)
takes v left before (a ∷ (b ∷ r)) z =
    takes_run (ltb left (a + 256 * b)) (eqb v 0 && eqb left (a + 256 * b)) a b left before r
    (runs_from (1 - v) (left - (a + 256 * b)) (words r) (before + 2)) refl
    (λ q. eqb-true left (a + 256 * b) (both_true (eqb v 0) (eqb left (a + 256 * b)) q).1)
    (takes (1 - v) (left - (a + 256 * b)) (before + 2) r) z

module _ (r : List ℕ) (p : ℕ) (e : Extent) (h : e ≡ run_extent r p) (z : e.status ≡ 0) where
  whole : Takes r p 0 e
  whole = rw h (takes 0 p 0 r (rw h at z))

  used_all : e.used.0 ≡ whole.size
  used_all = omega (arith, whole.adds)

  pub extent_within : e.used.0 ≤ length r
  extent_within = omega (arith, used_all, whole.within)

  pub extent_total : run_total (words (take e.used.0 r)) ≡ p
  extent_total = rw used_all whole.total
