-- The first k scanlines, none of them lost, are settled by the bytes before the next one.
use Prim.Native.Nat.{ℕ, zero, suc, ◌+◌, ◌≤◌, ◌<◌}
use Rattle.std.specs.Prelude.{◌≡◌, refl, true, false, ◌&&◌, List, [], ◌∷◌, ◌++◌, length, take, drop}
use Rattle.std.proofs.Math.Path.{sym, ap}
use Rattle.std.proofs.Common.{◌∙◌, inl, inr, arith}
use Rattle.std.proofs.Math.Bool.{not}
use Rattle.units.proofs.Laws.Numbers.{below_next}
use Rattle.numbering.specs.Numbering.{stored_number}
use Rattle.numbering.proofs.Laws.Numbering.{same_wanted}
use Rattle.layout.specs.Scanline.{head_of, reading_of}
use Rattle.layout.specs.Chain.{Raster, from, step_at, start, reached, head_at, rollover_of, number_of, reading_at, rows, statuses, one_if_good, good_count}
use Rattle.layout.proofs.Laws.Chain.{both, start_zero, start_suc, reached-zero, reached-suc, reading_reached, start_within}
use Rattle.layout.proofs.Laws.Numbering.{rollover_is, same_number}
use Rattle.isolation.proofs.Laws.OneFile.{with_bytes}
use Rattle.trailing.proofs.Laws.Front.{front_long, front_less, front_part}
use Rattle.trailing.proofs.Laws.Line.{SameScanline, same_scanline}

-- a raster r, and the one that differs from it in its bytes alone
module _ (r : Raster) (g : List ℕ) where
  -- the first k scanlines are the same, and all of them are reached in both
  pub record SameLines (k : ℕ) : Type 0 where
    pub starts : start (with_bytes r g) k ≡ start r k
    pub reaches : reached (with_bytes r g) k ≡ true
    pub same_rows : rows (with_bytes r g) k ≡ rows r k
    pub same_statuses : statuses (with_bytes r g) k ≡ statuses r k
    pub same_good : good_count (with_bytes r g) k ≡ good_count r k
    pub same_rollover : r.scn ≡ 1 → 65535 < k → rollover_of (with_bytes r g) ≡ rollover_of r

  module _ (inside : r.data_start ≤ length r.bytes) where
    next_reached : (k : ℕ) → reached r (suc k) ≡ true → (reached r k ≡ true) × ((step_at r (start r k)).lost ≡ false)
    next_reached k q = both (reached r k) (step_at r (start r k)).lost (sym (reached-suc r k) ∙ q)

    front-before : (k : ℕ) → take (start r (suc k)) g ≡ take (start r (suc k)) r.bytes → take (start r k) g ≡ take (start r k) r.bytes
    front-before k front = front_less g r.bytes (start r (suc k)) front (start r k) (omega (arith, start_suc r k))

    -- scanline k, which is reached and not lost
    pub same_line : (k : ℕ) → take (start r (suc k)) g ≡ take (start r (suc k)) r.bytes → (step_at r (start r k)).lost ≡ false
        → SameScanline r.scn r.data_type r.ppl (from r (start r k)) (drop (start r k) g)
    same_line k front kept =
        let s = start r k in
        let n = start r (suc k) in
        let e : n ≡ s + (step_at r s).used.0 = start_suc r k in
        let l : s ≤ length r.bytes = start_within r inside k in
        let m : n ≤ length g = front_long g r.bytes n front (start_within r inside (suc k)) in
        same_scanline r.scn r.data_type r.ppl (from r s) (drop s g) kept
        (front_part g r.bytes n front s (step_at r s).used.0 (omega arith) l (omega arith))

    -- from line 65,536 on, its number is the same
    rollover_same : (k : ℕ) → SameScanline r.scn r.data_type r.ppl (from r (start r k)) (drop (start r k) g) → SameLines k
        → r.scn ≡ 1 → 65535 ≤ k → rollover_of (with_bytes r g) ≡ rollover_of r
    rollover_same k line c one h =
        elim (below_next 65535 k (omega arith)) [
          | inl l ↦ c.same_rollover one l
          | inr e ↦
              rollover_is (with_bytes r g)
              ∙ ap (λ (j : ℕ). stored_number (head_at (with_bytes r g) j)) e
              ∙ ap (λ (n : ℕ). stored_number (head_of (drop n g))) c.starts
              ∙ ap stored_number (line.head one)
              ∙ ap (λ (j : ℕ). stored_number (head_at r j)) (sym e)
              ∙ sym (rollover_is r)
        ]

    -- and has the same reading where those before it are the same
    pub line-reading : (k : ℕ) → reached r k ≡ true → SameScanline r.scn r.data_type r.ppl (from r (start r k)) (drop (start r k) g)
        → SameLines k → reading_at (with_bytes r g) k ≡ reading_at r k
    line-reading k q line c =
        reading_reached (with_bytes r g) k c.reaches
        ∙ same_number r.scn r.data_type r.ppl (from (with_bytes r g) (start (with_bytes r g) k))
        (λ one. same_wanted (rollover_of (with_bytes r g)) (rollover_of r) k (rollover_same k line c one))
        ∙ ap (λ (n : ℕ). reading_of r.scn r.data_type r.ppl (number_of r k) (drop n g)) c.starts
        ∙ line.reading (number_of r k)
        ∙ sym (reading_reached r k q)

    same_next : (k : ℕ) → reached r k ≡ true → (step_at r (start r k)).lost ≡ false
        → SameScanline r.scn r.data_type r.ppl (from r (start r k)) (drop (start r k) g) → SameLines k → SameLines (suc k)
    unfolding rows statuses good_count
    same_next k q kept line c =
        let h = with_bytes r g in
        let s : step_at h (start h k) ≡ step_at r (start r k) = ap (step_at h) c.starts ∙ line.step in
        let x = line-reading k q line c in
        record {
          starts = start_suc h k ∙ (λ i. c.starts i + (s i).used.0) ∙ sym (start_suc r k);
          reaches = reached-suc h k ∙ (λ i. c.reaches i && not (s i).lost) ∙ rw kept;
          same_rows = λ i. c.same_rows i ++ (x i).row;
          same_statuses = λ i. c.same_statuses i ++ ((x i).status ∷ []);
          same_good = λ i. c.same_good i + one_if_good (x i).status;
          same_rollover = λ one h. rollover_same k line c one (omega arith);
        }

    pub same_lines : (k : ℕ) → reached r k ≡ true → take (start r k) g ≡ take (start r k) r.bytes → SameLines k
    unfolding rows statuses good_count
    same_lines zero q front =
        record {
          starts = start_zero (with_bytes r g) ∙ sym (start_zero r);
          reaches = reached-zero (with_bytes r g);
          same_rows = refl;
          same_statuses = refl;
          same_good = refl;
          same_rollover = λ one h. absurd (omega arith);
        }
    same_lines (suc k) q front =
        let b = next_reached k q in
        same_next k b.0 b.1 (same_line k front b.1) (same_lines k b.0 (front-before k front))
