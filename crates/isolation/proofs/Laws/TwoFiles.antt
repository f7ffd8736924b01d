-- The second file has the header and the chain of the first.
use Rattle.std.specs.Prelude.{ℕ, zero, suc, ◌≤◌, ◌<◌, ◌≡◌, refl, Bool, true, false, length, get_or, drop}
use Rattle.std.proofs.Common.{sym, ◌∙◌, arith, length-drop}
use Rattle.std.proofs.Math.Path.{ap}
use mathlib.Core.List.{List, [], ◌∷◌, ◌++◌}
use Rattle.units.specs.Counts.{bytes_of_blocks}
use Rattle.units.specs.Rules.{Rule, first}
use Rattle.units.proofs.Laws.Rules.{first_later}
use Rattle.fields.specs.declared.Fields.{Fields}
use Rattle.fields.specs.Fields.{fields_of, header_blocks}
use Rattle.header.specs.Rejections.{rejection_to22, rules_to22}
use Rattle.header.proofs.Laws.Accepted.{accepted}
use Rattle.numbering.specs.Numbering.{first_past, stored_number}
use Rattle.numbering.proofs.Laws.Numbering.{same_wanted}
use Rattle.layout.specs.Scanline.{head_of}
use Rattle.layout.specs.Chain.{Raster, sheet_of, from, start, reached, head_at, body_at, rollover_of, number_of, reading_at}
use Rattle.layout.specs.Reading.{raster_rejection, buffer_rules}
use Rattle.layout.proofs.Laws.Chain.{start_zero, reached-zero, reading_unreached, unreached-start, unreached-suc}
use Rattle.layout.proofs.Laws.Numbering.{reached_earlier, rollover_is}
use Rattle.isolation.specs.Statement.{InBody, ChangedInBodies}
use Rattle.isolation.proofs.Laws.Same.{same_window}
use Rattle.isolation.proofs.Laws.Headers.{same_fields, same_rules}
use Rattle.isolation.proofs.Laws.Headed.{same_body-length, same_lost, same_used}
use Rattle.isolation.proofs.Laws.OneFile.{with_bytes, reading_is, no_reading}
use Rattle.isolation.proofs.Laws.Chained.{start_next, reached_next, reading_own, header_outside, data_outside}

empty : (l : List ℕ) → length l ≡ 0 → l ≡ []
empty [] h = refl
empty (x ∷ l) h = absurd (omega arith)

-- Two rasters that differ only in their bytes, and these only inside bodies that the first one's chain reaches.
module _ (r : Raster) (g : List ℕ) (one : r.scn ≡ 1) (same_length : length g ≡ length r.bytes)
    (elsewhere : (i : ℕ) → (InBody r i → ⊥) → get_or g i 0 ≡ get_or r.bytes i 0) where
  -- a reached scanline has the same header
  same_head : (k : ℕ) → reached r k ≡ true → head_of (drop (start r k) g) ≡ head_of (from r (start r k))
  unfolding head_of
  same_head k q = same_window g r.bytes (start r k) 8 same_length (λ i l u. elsewhere i (header_outside r one k i q l u))

  same_left : (s : ℕ) → length (drop s g) ≡ length (from r s)
  same_left s = simp (length-drop, same_length)

  record SameAt (k : ℕ) : Type 0 where
    starts : start (with_bytes r g) k ≡ start r k
    reaches : reached (with_bytes r g) k ≡ reached r k

  same_next : (k : ℕ) (t : Bool) → reached r k ≡ t → SameAt k → SameAt (suc k)
  same_next k true q c =
      let a = drop (start r k) g in
      let b = from r (start r k) in
      record {
        starts =
            start_next (with_bytes r g) one k ∙
            rw (c.starts, same_used a b (same_head k q) (same_left (start r k))) (sym (start_next r one k));
        reaches =
            reached_next (with_bytes r g) one k ∙
            rw (c.starts, c.reaches, same_lost a b (same_head k q) (same_left (start r k))) (sym (reached_next r one k));
      }
  same_next k false q c =
      let p : reached (with_bytes r g) k ≡ false = c.reaches ∙ q in
      record {
        starts = unreached-start (with_bytes r g) k p ∙ c.starts ∙ sym (unreached-start r k q);
        reaches = unreached-suc (with_bytes r g) k p ∙ sym (unreached-suc r k q);
      }

  same_at : (k : ℕ) → SameAt k
  same_at zero =
      record {
        starts = start_zero (with_bytes r g) ∙ sym (start_zero r);
        reaches = reached-zero (with_bytes r g) ∙ sym (reached-zero r);
      }
  same_at (suc k) = same_next k (reached r k) refl (same_at k)

  pub same_starts : (k : ℕ) → start (with_bytes r g) k ≡ start r k
  same_starts k = (same_at k).starts

  pub same_reaches : (k : ℕ) → reached (with_bytes r g) k ≡ reached r k
  same_reaches k = (same_at k).reaches

  same_heads : (k : ℕ) → reached r k ≡ true → head_at (with_bytes r g) k ≡ head_at r k
  same_heads k q = rw (same_starts k) (same_head k q)

  -- so the number of line 65,536 is the same, and with it the number that a reached scanline must have
  pub same_rollovers : reached r first_past ≡ true → rollover_of (with_bytes r g) ≡ rollover_of r
  same_rollovers q = rollover_is (with_bytes r g) ∙ ap stored_number (same_heads first_past q) ∙ sym (rollover_is r)

  same_numbers : (k : ℕ) → reached r k ≡ true → number_of (with_bytes r g) k ≡ number_of r k
  same_numbers k q =
      same_wanted (rollover_of (with_bytes r g)) (rollover_of r) k (λ h. same_rollovers (reached_earlier r first_past k h q))

  -- a scanline has a body as long as before, so none where it had none
  pub same_body_lengths : (k : ℕ) → length (body_at (with_bytes r g) k) ≡ length (body_at r k)
  same_body_lengths k = go (reached r k) refl
    where
      go : (t : Bool) → reached r k ≡ t → length (body_at (with_bytes r g) k) ≡ length (body_at r k)
      go true q =
          rw (same_reaches k, same_starts k, q)
          (same_body-length (drop (start r k) g) (from r (start r k)) (same_head k q) (same_left (start r k)))
      go false q = rw (same_reaches k, q)

  pub also_none : (k : ℕ) → body_at r k ≡ [] → body_at (with_bytes r g) k ≡ []
  also_none k e = empty (body_at (with_bytes r g) k) (same_body_lengths k ∙ ap length e)

  -- and where its body is the same its reading is
  pub same_readings : (k : ℕ) → body_at (with_bytes r g) k ≡ body_at r k → reading_at (with_bytes r g) k ≡ reading_at r k
  same_readings k b = go (reached r k) refl
    where
      go : (t : Bool) → reached r k ≡ t → reading_at (with_bytes r g) k ≡ reading_at r k
      go true q = reading_is r g one same_reaches k q ∙ rw (same_numbers k q, same_heads k q, b) (sym (reading_own r one k q))
      go false q = no_reading r g one same_reaches k q ∙ sym (reading_unreached r k q)

-- a file with the same fields has the same sheet but for its bytes
pub sheet_by_fields : (f g : List ℕ) → fields_of g ≡ fields_of f → sheet_of g ≡ with_bytes (sheet_of f) g
sheet_by_fields f g e =
    ap (λ (x : Fields). record { bytes = g; data_start = (bytes_of_blocks (header_blocks x)).0; scn = x.scn; data_type = x.dtc; ppl = x.ppl; nol = x.nol }) e

-- Two files of which the first is not rejected: the second has the same header, and so the same sheet but for its bytes.
module _ (f g : List ℕ) (one : (sheet_of f).scn ≡ 1) (ok : rejection_to22 f ≡ 0) (changed : ChangedInBodies f g) where
  same_header : (i : ℕ) → i < (sheet_of f).data_start → get_or g i 0 ≡ get_or f i 0
  same_header i h = changed.elsewhere i (data_outside (sheet_of f) one i h)

  deep : 1024 ≤ (sheet_of f).data_start
  deep = omega (arith, (accepted f ok).blocks)

  fields : fields_of g ≡ fields_of f
  fields = same_fields g f (sheet_of f).data_start same_header deep

  pub same_sheet : sheet_of g ≡ with_bytes (sheet_of f) g
  same_sheet = sheet_by_fields f g fields

  -- the second reading is rejected only for its buffers
  pub rejection_is : (room lines : ℕ) → raster_rejection g room lines ≡ first (buffer_rules (sheet_of f).ppl (sheet_of f).nol room lines)
  unfolding raster_rejection rejection_to22
  rejection_is room lines =
      ap (λ (t : List Rule). first (t ++ buffer_rules (sheet_of g).ppl (sheet_of g).nol room lines))
      (same_rules g f (sheet_of f).data_start same_header deep (accepted f ok).entries changed.same_length) ∙
      first_later (rules_to22 f) (buffer_rules (sheet_of g).ppl (sheet_of g).nol room lines) tt ok ∙
      ap (λ (x : Fields). first (buffer_rules x.ppl x.nol room lines)) fields
