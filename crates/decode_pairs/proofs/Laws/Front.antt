-- Pairs of words from the front of a body: one, as four bytes of it, and what is after it.
use Rattle.std.specs.Prelude.{ℕ, ◌+◌, ◌-◌, ◌*◌, ◌<◌, ◌≡◌, refl, List, [], ◌∷◌, ◌++◌, length, replicate}
use Rattle.std.proofs.Common.{arith}
use borrow.Author.Tests.{lt-ltb, le-ltb, eq-eqb, ne_eqb}
use Rattle.units.specs.LittleEndian.{u16_at}
use Rattle.units.specs.Words.{words}
use Rattle.slices.proofs.Laws.FirstRun as first
use Rattle.codec.specs.PairPixels.{pair_total, pair_pixels, pairs_from}
use Rattle.codec.specs.Codec.{taken, fault}

pair_front : (w r : List ℕ) → length w ≡ 4 → words (w ++ r) ≡ u16_at w 0 ∷ (u16_at w 2 ∷ words r)
unfolding words u16_at
pair_front (a ∷ (b ∷ (c ∷ (d ∷ [])))) r h = refl
pair_front [] r h = absurd (omega arith)
pair_front (a ∷ []) r h = absurd (omega arith)
pair_front (a ∷ (b ∷ [])) r h = absurd (omega arith)
pair_front (a ∷ (b ∷ (c ∷ []))) r h = absurd (omega arith)
pair_front (a ∷ (b ∷ (c ∷ (d ∷ (e ∷ w))))) r h = absurd (omega arith)

-- fewer than four bytes are left: no pair
no_pair : {A : Type 0} (f : List ℕ → A) (z : A) → f [] ≡ z → ((v : ℕ) → f (v ∷ []) ≡ z) → (r : List ℕ) → length r < 4 → f (words r) ≡ z
unfolding words
no_pair f z none one [] h = none
no_pair f z none one (a ∷ []) h = none
no_pair f z none one (a ∷ (b ∷ [])) h = one (a + 256 * b)
no_pair f z none one (a ∷ (b ∷ (c ∷ []))) h = one (a + 256 * b)
no_pair f z none one (a ∷ (b ∷ (c ∷ (d ∷ r)))) h = absurd (omega arith)

pub total_front : (w r : List ℕ) → length w ≡ 4 → pair_total (words (w ++ r)) ≡ u16_at w 2 + pair_total (words r)
unfolding pair_total
total_front w r h = rw (pair_front w r h)

pub total_end : (r : List ℕ) → length r < 4 → pair_total (words r) ≡ 0
unfolding pair_total
total_end r h = no_pair pair_total 0 refl (λ v. refl) r h

pub pixels_front : (w r : List ℕ) → length w ≡ 4
    → pair_pixels (words (w ++ r)) ≡ replicate (u16_at w 2) (u16_at w 0) ++ pair_pixels (words r)
unfolding pair_pixels
pixels_front w r h = rw (pair_front w r h)

pub pixels_end : (r : List ℕ) → length r < 4 → pair_pixels (words r) ≡ []
unfolding pair_pixels
pixels_end r h = no_pair pair_pixels [] refl (λ v. refl) r h

-- What a line takes from a pair on: `left` pixels are to come, and i pairs are taken before it.
module _ (w r : List ℕ) (left i : ℕ) (h : length w ≡ 4) where
  pub extent_above : left < u16_at w 2 → pairs_from left (words (w ++ r)) (4 * i) ≡ fault 7
  unfolding pairs_from
  extent_above g = rw (pair_front w r h, lt-ltb left (u16_at w 2) g)

  pub extent_last : left ≡ u16_at w 2 → pairs_from left (words (w ++ r)) (4 * i) ≡ taken (4 * (i + 1))
  unfolding pairs_from
  extent_last g =
      let u : 4 * i + 4 ≡ 4 * (i + 1) = omega arith in
      rw (pair_front w r h, le-ltb left (u16_at w 2) (omega arith), eq-eqb left (u16_at w 2) g, u)

  pub extent_next : u16_at w 2 < left → pairs_from left (words (w ++ r)) (4 * i) ≡ pairs_from (left - u16_at w 2) (words r) (4 * (i + 1))
  unfolding pairs_from
  extent_next g =
      let u : 4 * i + 4 ≡ 4 * (i + 1) = omega arith in
      rw (pair_front w r h, le-ltb left (u16_at w 2) (omega arith), ne_eqb left (u16_at w 2) (λ q. omega arith), u)

pub extent_end : (r : List ℕ) (left i : ℕ) → length r < 4 → pairs_from left (words r) (4 * i) ≡ fault 1
unfolding pairs_from
extent_end r left i h = no_pair (λ (ws : List ℕ). pairs_from left ws (4 * i)) (fault 1) refl (λ v. refl) r h

-- for the loops of the functions
pub ruleset totals = (total_front, total_end)

pub ruleset extents = (extent_above, extent_last, extent_next, extent_end)

pub ruleset painted = (pixels_front, pixels_end, first.puts)

pub ruleset painted_bytes = (pixels_front, pixels_end, first.puts_bytes)
