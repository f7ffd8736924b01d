-- Changes inside bodies: each is covered, and nothing else is.
use Prim.Native.Nat.{ℕ, zero, suc, ◌+◌, ◌≤◌, ◌<◌}
use Rattle.std.specs.Prelude.{◌≡◌, Bool, true, false, ◌⊎◌, List, length, get_or, set, ltb, leb}
use Rattle.std.proofs.Math.Path.{refl}
use Rattle.std.proofs.Common.{sym, ◌∙◌, ap, subst, arith, length-set, get_or-set_same, get_or-set_other, ext_get_or, ltb-true, ltb-false, leb-true, leb-false}
use Rattle.std.proofs.Math.Logic.{inl, inr}
use Rattle.std.proofs.lemmas.List.{length-replicate}
use Rattle.std.proofs.Math.ListN.{get_or-eq_default}
use Rattle.std.proofs.lemmas.List.Edits.{sets}
use Rattle.std.proofs.Math.Seq.{set_out, length-sets}
use Rattle.units.specs.Over.{zeros}
use Rattle.units.proofs.Laws.Numbers.{below_next}
use Rattle.units.proofs.Laws.Over.{sets_misses}
use Rattle.layout.specs.Chain.{Raster, sheet_of, start, body_at}
use Rattle.isolation.specs.Statement.{InBody, ChangedInBodies}
use Rattle.isolation.specs.Covered.{with_body_byte, blanked, AllCovered, ChangedAgain}
use Rattle.isolation.proofs.Laws.OneFile.{with_bytes}
use Rattle.isolation.proofs.Laws.TwoFiles.{same_sheet, same_starts, same_body_lengths}

-- a byte of a body replaced, whatever was changed inside bodies before
one_byte : (f g : List ℕ) (k j b : ℕ) → k < (sheet_of f).nol → j < length (body_at (sheet_of f) k) → ChangedInBodies f g
    → ChangedInBodies f (with_body_byte (sheet_of f) k j b g)
one_byte f g k j b l u c =
    let at = start (sheet_of f) k + 8 + j in
    record {
      same_length = length-set g at b ∙ c.same_length;
      elsewhere =
          λ i away.
          get_or-set_other g at i b 0 (λ e. away (record { k = k; within = l; after = omega arith; before = omega arith }))
          ∙ c.elsewhere i away;
    }

-- zeros stored over a part of a list
zero-set : (l : List ℕ) (at : ℕ) → get_or (set l at 0) at 0 ≡ 0
zero-set l at = go (ltb at (length l)) refl
  where
    go : (t : Bool) → ltb at (length l) ≡ t → get_or (set l at 0) at 0 ≡ 0
    go true e = get_or-set_same l at 0 0 (ltb-true at (length l) e)
    go false e = rw (set_out l at 0 (ltb-false at (length l) e)) (get_or-eq_default l 0 (ltb-false at (length l) e))

zeros_outside : (n : ℕ) (l : List ℕ) (at i : ℕ) → (i < at) ⊎ (at + n ≤ i) → get_or (sets l at (zeros n)) i 0 ≡ get_or l i 0
zeros_outside n l at i h =
    sets_misses l at (zeros n) i
    (λ a b. elim h [ inl u ↦ omega arith | inr u ↦ omega (arith, length-replicate {A = ℕ} n 0) ])

zeros_inside : (n : ℕ) (l : List ℕ) (at i : ℕ) → at ≤ i → i < at + n → get_or (sets l at (zeros n)) i 0 ≡ 0
zeros_inside zero l at i h u = absurd (omega arith)
zeros_inside (suc n) l at i h u =
    elim (below_next at i (omega arith)) [
      | inl b ↦ zeros_inside n (set l at 0) (suc at) i (omega arith) (omega arith)
      | inr e ↦ rw (sym e) (zeros_outside n (set l at 0) (suc at) at (inl (omega arith)) ∙ zero-set l at)
    ]

module _ (r : Raster) where
  -- byte i lies in the body of one of the first n scanlines
  record InFirst (n i : ℕ) : Type 0 where
    k : ℕ
    within : k < n
    after : start r k + 8 ≤ i
    before : i < start r k + 8 + length (body_at r k)

  one_more : (n i : ℕ) → InFirst n i → InFirst (suc n) i
  one_more n i b = record { k = b.k; within = omega arith; after = b.after; before = b.before }

  this_or : (n i : ℕ) → InFirst (suc n) i → ((start r n + 8 ≤ i) × (i < start r n + 8 + length (body_at r n))) ⊎ InFirst n i
  this_or n i b =
      elim (below_next b.k n b.within) [
        | inl l ↦ inr (record { k = b.k; within = l; after = b.after; before = b.before })
        | inr e ↦ inl (rw e at b.after, rw e at b.before)
      ]

  in_or_out : (n i : ℕ) → ((start r n + 8 ≤ i) × (i < start r n + 8 + length (body_at r n))) ⊎ ((i < start r n + 8) ⊎ (start r n + 8 + length (body_at r n) ≤ i))
  in_or_out n i = go (leb (start r n + 8) i) (ltb i (start r n + 8 + length (body_at r n))) refl refl
    where
      go : (a b : Bool) → leb (start r n + 8) i ≡ a → ltb i (start r n + 8 + length (body_at r n)) ≡ b
          → ((start r n + 8 ≤ i) × (i < start r n + 8 + length (body_at r n))) ⊎ ((i < start r n + 8) ⊎ (start r n + 8 + length (body_at r n) ≤ i))
      go true true a b = inl (leb-true (start r n + 8) i a, ltb-true i (start r n + 8 + length (body_at r n)) b)
      go true false a b = inr (inr (ltb-false i (start r n + 8 + length (body_at r n)) b))
      go false t a b = inr (inl (leb-false (start r n + 8) i a))

  decided : (n i : ℕ) → InFirst n i ⊎ (InFirst n i → ⊥)
  decided zero i = inr (λ b. let h : b.k < 0 = b.within in omega arith)
  decided (suc n) i =
      elim (in_or_out n i) [
        | inl b ↦ inl (record { k = n; within = omega arith; after = b.0; before = b.1 })
        | inr o ↦ elim (decided n i) [
          | inl b ↦ inl (one_more n i b)
          | inr out ↦ inr (λ b. elim (this_or n i b) [
            | inl t ↦ elim o [ inl l ↦ omega arith | inr l ↦ omega arith ]
            | inr t ↦ out t
          ])
        ]
      ]

  pub length-blanked : (n : ℕ) (h : List ℕ) → length (blanked r n h) ≡ length h
  unfolding blanked
  length-blanked zero h = refl
  length-blanked (suc n) h = length-sets (blanked r n h) (start r n + 8) (zeros (length (body_at r n))) ∙ length-blanked n h

  -- a byte inside a body is blank, and one outside is as it was
  blank_inside : (n i : ℕ) (h : List ℕ) → InFirst n i → get_or (blanked r n h) i 0 ≡ 0
  unfolding blanked
  blank_inside zero i h b = let e : b.k < 0 = b.within in absurd (omega arith)
  blank_inside (suc n) i h b =
      elim (in_or_out n i) [
        | inl t ↦ zeros_inside (length (body_at r n)) (blanked r n h) (start r n + 8) i t.0 t.1
        | inr o ↦ zeros_outside (length (body_at r n)) (blanked r n h) (start r n + 8) i o ∙ elim (this_or n i b) [
          | inl t ↦ elim o [ inl l ↦ absurd (omega arith) | inr l ↦ absurd (omega arith) ]
          | inr t ↦ blank_inside n i h t
        ]
      ]

  blank_outside : (n i : ℕ) (h : List ℕ) → (InFirst n i → ⊥) → get_or (blanked r n h) i 0 ≡ get_or h i 0
  unfolding blanked
  blank_outside zero i h out = refl
  blank_outside (suc n) i h out =
      elim (in_or_out n i) [
        | inl t ↦ absurd (out (record { k = n; within = omega arith; after = t.0; before = t.1 }))
        | inr o ↦ zeros_outside (length (body_at r n)) (blanked r n h) (start r n + 8) i o ∙ blank_outside n i h (λ b. out (one_more n i b))
      ]

  first_of : (i : ℕ) → InBody r i → InFirst r.nol i
  first_of i b = record { k = b.k; within = b.within; after = b.after; before = b.before }

  body_of : (i : ℕ) → InFirst r.nol i → InBody r i
  body_of i b = record { k = b.k; within = b.within; after = b.after; before = b.before }

module _ (f : List ℕ) where
  blanks_same : (g : List ℕ) → ChangedInBodies f g → blanked (sheet_of f) (sheet_of f).nol g ≡ blanked (sheet_of f) (sheet_of f).nol f
  blanks_same g c =
      let r = sheet_of f in
      ext_get_or 0 (blanked r r.nol g) (blanked r r.nol f) (length-blanked r r.nol g ∙ c.same_length ∙ sym (length-blanked r r.nol f))
      (λ i l.
      elim (decided r r.nol i) [
        | inl b ↦ blank_inside r r.nol i g b ∙ sym (blank_inside r r.nol i f b)
        | inr out ↦ blank_outside r r.nol i g out ∙ c.elsewhere i (λ b. out (first_of r i b)) ∙ sym (blank_outside r r.nol i f out)
      ])

  changed_so : (g : List ℕ) → length g ≡ length f → blanked (sheet_of f) (sheet_of f).nol g ≡ blanked (sheet_of f) (sheet_of f).nol f
      → ChangedInBodies f g
  changed_so g l e =
      let r = sheet_of f in
      record {
        same_length = l;
        elsewhere = λ i away.
            let out : InFirst r r.nol i → ⊥ = λ b. away (body_of r i b) in
            sym (blank_outside r r.nol i g out) ∙ ap (λ (h : List ℕ). get_or h i 0) e ∙ blank_outside r r.nol i f out;
      }

pub covered : AllCovered
covered f =
    record {
      none = record { same_length = refl; elsewhere = λ i away. refl };
      more = λ g k j b l u c. one_byte f g k j b l u c;
      exactly = λ g. ((λ c. (c.same_length, blanks_same f g c)), (λ c. changed_so f g c.0 c.1));
    }

pub changed_again : ChangedAgain
changed_again f g h one ok c d =
    let r = sheet_of f in
    let starts = same_starts r g one c.same_length c.elsewhere in
    let bodies = same_body_lengths r g one c.same_length c.elsewhere in
    let back : (i : ℕ) → InBody (with_bytes r g) i → InBody r i =
    λ i b.
    record {
      k = b.k;
      within = b.within;
      after = omega (arith, starts b.k);
      before = omega (arith, starts b.k, bodies b.k);
    } in
    record {
      same_length = d.same_length ∙ c.same_length;
      elsewhere = λ i away.
          d.elsewhere i (λ b. away (back i (subst (λ (x : Raster). InBody x i) (same_sheet f g one ok c) b)))
          ∙ c.elsewhere i away;
    }
