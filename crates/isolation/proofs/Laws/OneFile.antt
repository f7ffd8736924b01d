-- One reading that is not rejected: h is the file that it reads. Its raster is r with the bytes of h, and the scanlines that
-- are reached are those of r.
use Rattle.std.specs.Prelude.{ℕ, ◌*◌, ◌≤◌, ◌<◌, ◌≡◌, refl, Bool, true, false, cond, ◌↔◌, ◌⊎◌, List, ◌++◌, length, take, drop, eqb}
use Rattle.std.proofs.Common.{sym, ◌∙◌, subst, inl, inr, arith, length-append}
use Rattle.std.proofs.Math.Path.{subst⁻¹}
use Rattle.units.specs.Over.{zeros}
use Rattle.layout.specs.Scanline.{reading, unreached}
use Rattle.layout.specs.Chain.{Raster, sheet_of, reached, head_at, body_at, number_of, reading_at, rows, statuses, good_count}
use Rattle.layout.specs.Reading.{raster_rejection, raster_reading, read_numbers, pixels_after, marks_after, count_good}
use Rattle.layout.proofs.Laws.Chain.{reading_unreached, length-rows, length-statuses}
use Rattle.layout.proofs.Laws.Reading.{good_counted}
use Rattle.isolation.specs.Statement.{LineIs, OneReading}
use Rattle.isolation.proofs.Laws.Chained.{reading_own}
use Rattle.isolation.proofs.Laws.Buffers.{AllGood, line_there, answer_good, blank-row}

-- a raster with other bytes
abbrev pub with_bytes : Raster → List ℕ → Raster
with_bytes r h =
    record { bytes = h; data_start = r.data_start; scn = r.scn; data_type = r.data_type; ppl = r.ppl; nol = r.nol }

-- the reading of scanline k of h
module _ (r : Raster) (h : List ℕ) (one : r.scn ≡ 1) (same_reached : (k : ℕ) → reached (with_bytes r h) k ≡ reached r k) where
  pub reading_is : (k : ℕ) → reached r k ≡ true
      → reading_at (with_bytes r h) k ≡ reading r.data_type r.ppl (number_of (with_bytes r h) k) (head_at (with_bytes r h) k) (body_at (with_bytes r h) k)
  reading_is k q = reading_own (with_bytes r h) one k (same_reached k ∙ q)

  pub no_reading : (k : ℕ) → reached r k ≡ false → reading_at (with_bytes r h) k ≡ unreached r.ppl
  no_reading k q = reading_unreached (with_bytes r h) k (same_reached k ∙ q)

  blank-reading : (k : ℕ) → ((reading_at (with_bytes r h) k).status ≡ 0 → ⊥) → (reading_at (with_bytes r h) k).row ≡ zeros r.ppl
  blank-reading k z = go (reached r k) refl
    where
      go : (t : Bool) → reached r k ≡ t → (reading_at (with_bytes r h) k).row ≡ zeros r.ppl
      go true q =
          rw (reading_is k q)
          (blank-row r.data_type r.ppl (number_of (with_bytes r h) k) (head_at (with_bytes r h) k) (body_at (with_bytes r h) k) (rw (reading_is k q) at z))
      go false q = rw (no_reading k q)

-- the answer and the buffers of a file that is not rejected, by its raster
module _ (h pixels marks : List ℕ) (taken : raster_rejection h (length pixels) (length marks) ≡ 0) where
  pub pixels_are : pixels_after h pixels marks ≡ rows (sheet_of h) (sheet_of h).nol ++ drop ((sheet_of h).nol * (sheet_of h).ppl) pixels
  unfolding pixels_after
  pixels_are = rw taken

  pub marks_are : marks_after h pixels marks ≡ statuses (sheet_of h) (sheet_of h).nol ++ drop (sheet_of h).nol marks
  unfolding marks_after
  marks_are = rw taken

  pub answer_is : raster_reading h pixels marks ≡ read_numbers (sheet_of h)
  unfolding raster_reading
  answer_is = rw taken

  zero_or_one : ((raster_reading h pixels marks).answer ≡ 0) ⊎ ((raster_reading h pixels marks).answer ≡ 1)
  zero_or_one = rw answer_is (go (eqb (good_count (sheet_of h) (sheet_of h).nol) (sheet_of h).nol))
    where
      go : (t : Bool) → (◌≡◌ {A = ℕ} (cond t 0 1) 0) ⊎ (◌≡◌ {A = ℕ} (cond t 0 1) 1)
      go true = inl refl
      go false = inr refl

  -- the buffers have room for every row and every status
  pub pixels_room : (sheet_of h).nol * (sheet_of h).ppl ≤ length (pixels_after h pixels marks)
  pixels_room =
      rw pixels_are
      (omega (arith, length-append (rows (sheet_of h) (sheet_of h).nol) (drop ((sheet_of h).nol * (sheet_of h).ppl) pixels), length-rows (sheet_of h) (sheet_of h).nol))

  pub marks_room : (sheet_of h).nol ≤ length (marks_after h pixels marks)
  marks_room =
      rw marks_are
      (omega (arith, length-append (statuses (sheet_of h) (sheet_of h).nol) (drop (sheet_of h).nol marks), length-statuses (sheet_of h) (sheet_of h).nol))

module _ (r : Raster) (h : List ℕ) (sheet : sheet_of h ≡ with_bytes r h) (one : r.scn ≡ 1)
    (same_reached : (k : ℕ) → reached (with_bytes r h) k ≡ reached r k) (pixels marks : List ℕ)
    (taken : raster_rejection h (length pixels) (length marks) ≡ 0) where
  pub line_is : (k : ℕ) → k < r.nol
      → LineIs r.ppl k (pixels_after h pixels marks) (marks_after h pixels marks) (reading_at (with_bytes r h) k)
  line_is k l =
      rw (pixels_are h pixels marks taken, marks_are h pixels marks taken)
      (subst⁻¹
      (λ (x : Raster).
      LineIs r.ppl k (rows x x.nol ++ drop (x.nol * x.ppl) pixels) (statuses x x.nol ++ drop x.nol marks) (reading_at (with_bytes r h) k))
      sheet
      (line_there (with_bytes r h) r.nol k (drop (r.nol * r.ppl) pixels) (drop r.nol marks) l))

  all_good : ((raster_reading h pixels marks).answer ≡ 0) ↔ AllGood (with_bytes r h) r.nol
  all_good =
      rw (answer_is h pixels marks taken)
      (subst⁻¹ (λ (x : Raster). ((read_numbers x).answer ≡ 0) ↔ AllGood (with_bytes r h) r.nol) sheet (answer_good (with_bytes r h) r.nol))

  pub one-reading : OneReading r (sheet_of h) (raster_reading h pixels marks) (pixels_after h pixels marks) (marks_after h pixels marks)
  one-reading =
      record {
        own =
            λ k l q.
            subst⁻¹
            (λ (x : Raster).
            LineIs r.ppl k (pixels_after h pixels marks) (marks_after h pixels marks) (reading r.data_type r.ppl (number_of x k) (head_at x k) (body_at x k)))
            sheet
            (rw (reading_is r h one same_reached k q) at (line_is k l));
        rest = λ k l q. rw (no_reading r h one same_reached k q) at (line_is k l);
        blank = λ k l z. (line_is k l).row ∙ blank-reading r h one same_reached k (λ e. z ((line_is k l).status ∙ e));
        end = rw (answer_is h pixels marks taken);
        is_read = zero_or_one h pixels marks taken;
        good =
            subst
            (λ (x : Raster). (raster_reading h pixels marks).good ≡ count_good (take x.nol (marks_after h pixels marks)))
            sheet
            (good_counted h pixels marks taken);
        answer = (
          (λ e k l. (line_is k l).status ∙ all_good.0 e k l),
          (λ e. all_good.1 (λ k l. sym (line_is k l).status ∙ e k l)),
        );
      }
