-- Laws of the chain of a raster, and of its first k scanlines: their statuses, their rows, and how many are good.
use Prim.Native.Nat.{ℕ, zero, suc, ◌+◌, ◌*◌, ◌≤◌, zero-le}
use Rattle.std.specs.Prelude.{◌≡◌, Bool, not, ◌&&◌, [], ◌∷◌, eqb}
use Rattle.std.proofs.Math.Path.{refl, sym, ap}
use Rattle.std.proofs.Common.{◌∙◌, suc-mul, zero-mul, length-drop}
use Rattle.std.proofs.Math.Bool.{true, false, cond}
use Rattle.std.proofs.lemmas.Bool.{false≢true}
use native.Mathlib.Omega.{arith}
use Rattle.std.proofs.Math.ListN.{length, length-append}
use Rattle.std.proofs.lemmas.List.{length-replicate}
use Rattle.layout.specs.Scanline.{Reading, reading_of, unreached}
use Rattle.layout.specs.Chain.{Raster, from, step_at, start, reached, number_of, reading_at, rows, statuses, one_if_good, good_count}
use Rattle.layout.proofs.Laws.Line.{used_within, lost_used, length-row}

-- a scanline reached and not lost, as the next one's being reached says
pub both : (a b : Bool) → (a && not b) ≡ true → (a ≡ true) × (b ≡ false)
both true false h = (refl, refl)
both true true h = (refl, sym h)
both false b h = absurd (false≢true h)

module _ (r : Raster) where
  -- where scanlines start and which are reached, one after the other
  pub start_zero : start r zero ≡ r.data_start
  unfolding start
  start_zero = refl

  pub start_suc : (k : ℕ) → start r (suc k) ≡ start r k + (step_at r (start r k)).used.0
  unfolding start
  start_suc k = refl

  pub reached-zero : reached r zero ≡ true
  unfolding reached
  reached-zero = refl

  pub reached-suc : (k : ℕ) → reached r (suc k) ≡ (reached r k && not (step_at r (start r k)).lost)
  unfolding reached
  reached-suc k = refl

  pub reading_reached : (k : ℕ) → reached r k ≡ true
      → reading_at r k ≡ reading_of r.scn r.data_type r.ppl (number_of r k) (from r (start r k))
  unfolding reading_at
  reading_reached k e = rw e

  pub reading_unreached : (k : ℕ) → reached r k ≡ false → reading_at r k ≡ unreached r.ppl
  unfolding reading_at
  reading_unreached k e = rw e

  -- every scanline starts within the raster's bytes
  pub start_within : r.data_start ≤ length r.bytes → (k : ℕ) → start r k ≤ length r.bytes
  start_within h zero = rw start_zero h
  start_within h (suc k) =
      let i : start r k ≤ length r.bytes = start_within h k in
      omega (arith, start_suc k, used_within r.scn r.data_type r.ppl (from r (start r k)), length-drop (start r k) r.bytes, i)

  -- a scanline that is not reached starts where the lost one does
  stays : (k : ℕ) → (step_at r (start r k)).lost ≡ true → start r (suc k) ≡ start r k
  stays k l = omega (arith, start_suc k, lost_used r.scn r.data_type r.ppl (from r (start r k)) l)

  pub unreached-lost : (k : ℕ) → reached r k ≡ false → (step_at r (start r k)).lost ≡ true
  unreached-lost zero e = absurd (false≢true (sym e ∙ reached-zero))
  unreached-lost (suc k) e =
      let l : (step_at r (start r k)).lost ≡ true = still (reached r k) (step_at r (start r k)).lost (sym (reached-suc k) ∙ e) (unreached-lost k) in
      ap (λ (s : ℕ). (step_at r s).lost) (stays k l) ∙ l
    where
      still : (a lost : Bool) → (a && not lost) ≡ false → (a ≡ false → lost ≡ true) → lost ≡ true
      still true true e ih = refl
      still false lost e ih = ih refl
      still true false e ih = absurd (false≢true (sym e))

  pub unreached-start : (k : ℕ) → reached r k ≡ false → start r (suc k) ≡ start r k
  unreached-start k e = stays k (unreached-lost k e)

  pub unreached-suc : (k : ℕ) → reached r k ≡ false → reached r (suc k) ≡ false
  unreached-suc k e = reached-suc k ∙ ap (λ (b : Bool). b && not (step_at r (start r k)).lost) e

  -- the first k scanlines
  pub length-statuses : (k : ℕ) → length (statuses r k) ≡ k
  unfolding statuses
  length-statuses zero = refl
  length-statuses (suc k) = omega (arith, length-append (statuses r k) ((reading_at r k).status ∷ []), length-statuses k)

  pub length-reading : (k : ℕ) → length (reading_at r k).row ≡ r.ppl
  length-reading k = go (reached r k) refl
    where
      go : (b : Bool) → reached r k ≡ b → length (reading_at r k).row ≡ r.ppl
      go true e =
          ap (λ (x : Reading). length x.row) (reading_reached k e)
          ∙ length-row r.scn r.data_type r.ppl (from r (start r k)) (number_of r k)
      go false e = ap (λ (x : Reading). length x.row) (reading_unreached k e) ∙ length-replicate r.ppl 0

  pub length-rows : (k : ℕ) → length (rows r k) ≡ k * r.ppl
  unfolding rows
  length-rows zero = sym (zero-mul r.ppl)
  length-rows (suc k) =
      length-append (rows r k) (reading_at r k).row
      ∙ ap (λ (n : ℕ). n + length (reading_at r k).row) (length-rows k)
      ∙ ap (λ (n : ℕ). k * r.ppl + n) (length-reading k)
      ∙ sym (suc-mul k r.ppl)

  -- at most k of them are good
  pub good_suc : (k : ℕ) → good_count r (suc k) ≡ good_count r k + one_if_good (reading_at r k).status
  unfolding good_count
  good_suc k = refl

  pub good_most : (k : ℕ) → good_count r k ≤ k
  unfolding good_count
  good_most zero = zero-le
  good_most (suc k) = one_more (eqb (reading_at r k).status 0) (good_count r k) k (good_most k)
    where
      one_more : (b : Bool) (g k : ℕ) → g ≤ k → g + cond b 1 0 ≤ suc k
      one_more true g k h = omega arith
      one_more false g k h = omega arith
