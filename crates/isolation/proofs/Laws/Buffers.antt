-- What the buffers hold after a reading: the status and the row of each scanline, in its own place.
use Prim.Native.Nat.{ℕ, zero, suc, ◌+◌, ◌*◌, ◌<◌}
use Rattle.std.specs.Prelude.{◌≡◌, Bool, ◌↔◌, List, [], ◌∷◌, ◌++◌, get_or, take, drop}
use Rattle.std.proofs.Math.Path.{refl}
use Rattle.std.proofs.Math.Bool.{true, false, cond}
use Rattle.std.proofs.Math.Logic.{inl, inr}
use Rattle.std.proofs.Common.{append_assoc, arith, eqb-true, eq-eqb, ne_eqb}
use Rattle.std.proofs.Math.Seq.{take_at, drop_at, get_or_at}
use Rattle.std.proofs.Math.Dec.{eqb}
use Rattle.units.specs.Over.{zeros}
use Rattle.layout.specs.Scanline.{reading}
use Rattle.layout.specs.Chain.{Raster, reading_at, rows, statuses, good_count}
use Rattle.layout.proofs.Laws.Chain.{length-reading, length-rows, length-statuses, good_most}
use Rattle.isolation.specs.Statement.{LineIs}
use Rattle.units.proofs.Laws.Numbers.{below_next}

module _ (r : Raster) where
  -- scanline k of n, whatever follows
  pub row_there : (n k : ℕ) (rest : List ℕ) → k < n
      → take r.ppl (drop (k * r.ppl) (rows r n ++ rest)) ≡ (reading_at r k).row
  unfolding rows
  row_there zero k rest h = absurd (omega arith)
  row_there (suc n) k rest h =
      rw (append_assoc (rows r n) (reading_at r n).row rest)
      (elim (below_next k n h) [
        | inl l ↦ row_there n k ((reading_at r n).row ++ rest) l
        | inr e ↦ rw (
          e,
          drop_at (rows r n) ((reading_at r n).row ++ rest) (n * r.ppl) (length-rows r n),
          take_at (reading_at r n).row rest r.ppl (length-reading r n),
        )
      ])

  pub status_there : (n k : ℕ) (rest : List ℕ) → k < n → get_or (statuses r n ++ rest) k 0 ≡ (reading_at r k).status
  unfolding statuses
  status_there zero k rest h = absurd (omega arith)
  status_there (suc n) k rest h =
      rw (append_assoc (statuses r n) ((reading_at r n).status ∷ []) rest)
      (elim (below_next k n h) [
        | inl l ↦ status_there n k ((reading_at r n).status ∷ rest) l
        | inr e ↦ rw (e, get_or_at (statuses r n) (reading_at r n).status rest 0 n (length-statuses r n))
      ])

  pub line_there : (n k : ℕ) (pixels marks : List ℕ) → k < n
      → LineIs r.ppl k (rows r n ++ pixels) (statuses r n ++ marks) (reading_at r k)
  line_there n k pixels marks h = record { status = status_there n k marks h; row = row_there n k pixels h }

-- all of n scanlines are good exactly where each has the status 0
abbrev pub AllGood : Raster → ℕ → Type 0
AllGood r n = (k : ℕ) → k < n → (reading_at r k).status ≡ 0

module _ (r : Raster) where
  good_last : (n : ℕ) → good_count r (suc n) ≡ suc n → ((reading_at r n).status ≡ 0) × (good_count r n ≡ n)
  unfolding good_count
  good_last n h = go (eqb (reading_at r n).status 0) refl h
    where
      go : (t : Bool) → eqb (reading_at r n).status 0 ≡ t → good_count r n + cond t 1 0 ≡ suc n
          → ((reading_at r n).status ≡ 0) × (good_count r n ≡ n)
      go true e h = (eqb-true (reading_at r n).status 0 e, omega arith)
      go false e h = absurd (omega (arith, good_most r n))

  pub good_all : (n : ℕ) → good_count r n ≡ n → AllGood r n
  good_all zero h k l = absurd (omega arith)
  good_all (suc n) h k l =
      elim (below_next k n l) [ inl m ↦ good_all n (good_last n h).1 k m | inr e ↦ rw e (good_last n h).0 ]

  pub all_good : (n : ℕ) → AllGood r n → good_count r n ≡ n
  unfolding good_count
  all_good zero h = refl
  all_good (suc n) h =
      rw (eq-eqb (reading_at r n).status 0 (h n (omega arith))) (omega (arith, all_good n (λ k l. h k (omega arith))))

  pub answer_good : (n : ℕ) → ◌≡◌ {A = ℕ} (cond (eqb (good_count r n) n) 0 1) 0 ↔ AllGood r n
  answer_good n = (
    (λ z. good_all n (eqb-true (good_count r n) n (zero_so (eqb (good_count r n) n) z))),
    (λ h. rw (eq-eqb (good_count r n) n (all_good n h))),
  )
    where
      zero_so : (t : Bool) → ◌≡◌ {A = ℕ} (cond t 0 1) 0 → t ≡ true
      zero_so true z = refl
      zero_so false z = absurd (omega arith)

-- where the status is not 0 the row is all zeros
pub blank-row : (t p number : ℕ) (hd body : List ℕ) → ((reading t p number hd body).status ≡ 0 → ⊥)
    → (reading t p number hd body).row ≡ zeros p
unfolding reading
blank-row t p number hd body h = rw (ne_eqb (reading t p number hd body).status 0 h)
