-- The chain of a raster with scanline headers.
use Rattle.std.specs.Prelude.{ℕ, zero, suc, ◌+◌, ◌≤◌, ◌<◌, ◌≡◌, refl, Bool, true, false, not, ◌&&◌, length, ltb}
use Rattle.std.proofs.Common.{sym, ◌∙◌, inl, inr, arith, ltb-true, ltb-false}
use Rattle.units.proofs.Laws.Numbers.{below_next}
use Rattle.layout.specs.Scanline.{reading, is_lost}
use Rattle.layout.specs.Chain.{Raster, from, start, reached, head_at, body_at, number_of, reading_at}
use Rattle.layout.proofs.Laws.Chain.{both, start_zero, start_suc, reached-suc}
use Rattle.isolation.specs.Statement.{InBody}
use Rattle.isolation.proofs.Laws.Headed.{used_of, used_body}

-- scanlines start one after the other
module _ (r : Raster) where
  start_grows : (k : ℕ) → start r k ≤ start r (suc k)
  start_grows k = omega (arith, start_suc r k)

  pub start_later : (j k : ℕ) → j ≤ k → start r j ≤ start r k
  start_later j zero h = rw (let z : j ≡ 0 = omega arith in z) (omega arith)
  start_later j (suc k) h =
      elim (below_next j (suc k) (omega arith)) [
        | inl l ↦ omega (arith, start_later j k (omega arith), start_grows k)
        | inr e ↦ rw e (omega arith)
      ]

module _ (r : Raster) (one : r.scn ≡ 1) where
  pub start_next : (k : ℕ) → start r (suc k) ≡ start r k + used_of (from r (start r k))
  start_next k = start_suc r k ∙ rw one

  pub reached_next : (k : ℕ) → reached r (suc k) ≡ (reached r k && not (is_lost (from r (start r k))))
  reached_next k = reached-suc r k ∙ rw one

  pub reading_own : (k : ℕ) → reached r k ≡ true → reading_at r k ≡ reading r.data_type r.ppl (number_of r k) (head_at r k) (body_at r k)
  unfolding reading_at
  reading_own k e = rw (e, one)

  -- the bodies of those before a reached one end where it starts, or before
  pub body-before : (j k : ℕ) → j < k → reached r k ≡ true → start r j + 8 + length (body_at r j) ≤ start r k
  body-before j zero h q = absurd (omega arith)
  body-before j (suc k) h q =
      let b = both (reached r k) (is_lost (from r (start r k))) (sym (reached_next k) ∙ q) in
      elim (below_next j k h) [
        | inl l ↦ omega (arith, body-before j k l b.0, start_grows r k)
        | inr e ↦ rw (e, b.0) (omega (arith, start_next k, used_body (from r (start r k)) b.1))
      ]

  -- so no byte of its header lies inside a body
  pub header_outside : (k i : ℕ) → reached r k ≡ true → start r k ≤ i → i < start r k + 8 → InBody r i → ⊥
  header_outside k i q l u b = go (ltb b.k k) refl
    where
      go : (t : Bool) → ltb b.k k ≡ t → ⊥
      go true e = omega (arith, body-before b.k k (ltb-true b.k k e) q)
      go false e = omega (arith, start_later r k b.k (ltb-false b.k k e))

  -- nor does a byte before the raster data
  pub data_outside : (i : ℕ) → i < r.data_start → InBody r i → ⊥
  data_outside i h b = omega (arith, start_zero r, start_later r 0 b.k (omega arith))
