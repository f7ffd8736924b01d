-- Words from the front of a body: one, as two bytes of it, and what is after it.
use Rattle.std.specs.Prelude.{ℕ, ◌+◌, ◌-◌, ◌*◌, ◌≤◌, ◌<◌, ◌≡◌, refl, Bool, true, false, not, cond, ◌&&◌, List, [], ◌∷◌, ◌++◌, length, replicate, eqb}
use Rattle.std.proofs.Common.{ap, arith}
use borrow.Author.Tests.{lt-ltb, le-ltb, eq-eqb, ne_eqb}
use Rattle.units.specs.LittleEndian.{u16_at}
use Rattle.units.specs.Words.{words}
use Rattle.slices.proofs.Laws.FirstRun as first
use Rattle.codec.specs.RunPixels.{run_total, run_pixels, runs_from}
use Rattle.codec.specs.Codec.{taken, fault}

words_front : (w r : List ℕ) → length w ≡ 2 → words (w ++ r) ≡ u16_at w 0 ∷ words r
unfolding words u16_at
words_front (a ∷ (b ∷ [])) r h = refl
words_front [] r h = absurd (omega arith)
words_front (a ∷ []) r h = absurd (omega arith)
words_front (a ∷ (b ∷ (c ∷ w))) r h = absurd (omega arith)

words_end : (r : List ℕ) → length r < 2 → words r ≡ []
unfolding words
words_end [] h = refl
words_end (a ∷ []) h = refl
words_end (a ∷ (b ∷ r)) h = absurd (omega arith)

pub total_front : (w r : List ℕ) → length w ≡ 2 → run_total (words (w ++ r)) ≡ u16_at w 0 + run_total (words r)
unfolding run_total
total_front w r h = rw (words_front w r h)

pub total_end : (r : List ℕ) → length r < 2 → run_total (words r) ≡ 0
unfolding run_total
total_end r h = rw (words_end r h)

pub pixels_front : (v : ℕ) (w r : List ℕ) → length w ≡ 2
    → run_pixels v (words (w ++ r)) ≡ replicate (u16_at w 0) v ++ run_pixels (1 - v) (words r)
unfolding run_pixels
pixels_front v w r h = rw (words_front w r h)

pub pixels_end : (v : ℕ) (r : List ℕ) → length r < 2 → run_pixels v (words r) ≡ []
unfolding run_pixels
pixels_end v r h = rw (words_end r h)

-- the level of the next run
abbrev pub level : Bool → ℕ
level on = cond on 1 0

flip : (on : Bool) → 1 - level on ≡ level (not on)
flip true = refl
flip false = refl

-- not the last run: it is ON, or something is to come after it
not_last : (on : Bool) (left n : ℕ) → (left ≡ n → on ≡ true) → (eqb (level on) 0 && eqb left n) ≡ false
not_last true left n h = refl
not_last false left n h = ne_eqb left n (λ q. let z : ◌≡◌ {A = ℕ} 0 1 = ap level (h q) in omega arith)

-- What a line takes from a run on: `left` pixels are to come, and i words are taken before it.
module _ (w r : List ℕ) (left i : ℕ) (on : Bool) (h : length w ≡ 2) where
  pub extent_above : left < u16_at w 0 → runs_from (level on) left (words (w ++ r)) (2 * i) ≡ fault 7
  unfolding runs_from
  extent_above g = rw (words_front w r h, lt-ltb left (u16_at w 0) g)

  pub extent_last : left ≡ u16_at w 0 → on ≡ false → runs_from (level on) left (words (w ++ r)) (2 * i) ≡ taken (2 * (i + 1))
  unfolding runs_from
  extent_last g f =
      let u : 2 * i + 2 ≡ 2 * (i + 1) = omega arith in
      rw (f, words_front w r h, le-ltb left (u16_at w 0) (omega arith), eq-eqb left (u16_at w 0) g, u)

  pub extent_next : u16_at w 0 ≤ left → (left ≡ u16_at w 0 → on ≡ true)
      → runs_from (level on) left (words (w ++ r)) (2 * i) ≡ runs_from (level (not on)) (left - u16_at w 0) (words r) (2 * (i + 1))
  unfolding runs_from
  extent_next g f =
      let u : 2 * i + 2 ≡ 2 * (i + 1) = omega arith in
      rw (words_front w r h, le-ltb left (u16_at w 0) g, not_last on left (u16_at w 0) f, flip on, u)

pub extent_end : (r : List ℕ) (v left i : ℕ) → length r < 2 → runs_from v left (words r) (2 * i) ≡ fault 1
unfolding runs_from
extent_end r v left i h = rw (words_end r h)

-- for the loops of the functions
pub ruleset totals = (total_front, total_end)

pub ruleset extents = (extent_above, extent_last, extent_next, extent_end)

pub ruleset painted = (pixels_front, pixels_end, first.puts)

pub ruleset painted_bytes = (pixels_front, pixels_end, first.puts_bytes)
