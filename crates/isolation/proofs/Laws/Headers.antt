-- Two files with the same bytes below their raster data have the same header and the same rejections.
use Rattle.std.specs.Prelude.{ℕ, ◌+◌, ◌-◌, ◌≤◌, ◌<◌, ◌≡◌, refl, Bool, true, ◌&&◌, List, ◌++◌, length, get_or}
use Rattle.std.proofs.Common.{ap, ◌∙◌, arith, eqb-true}
use Rattle.std.proofs.Math.Bool.{false}
use Rattle.std.proofs.Math.Dec.{eqb}
use Rattle.fields.specs.declared.Fields.{Fields}
use Rattle.fields.specs.Fields.{fields_of}
use Rattle.header.specs.Rejections.{slot_at, entry_start, slot_occurs, shares_slot, frame_rules, field_rules, color_table_rules, rules_to22}
use Rattle.units.specs.Counts.{bytes_in}
use Rattle.units.specs.LittleEndian.{u16_at}
use Rattle.units.specs.Rules.{Rule}
use Rattle.isolation.proofs.Laws.Same.{same_u16, same_u32, same_scan}

same_and : (t a b : Bool) → (t ≡ true → a ≡ b) → (t && a) ≡ (t && b)
same_and true a b h = h refl
same_and false a b h = refl

-- the entries of a color table, where the bytes from 768 on are the same
module _ (g f : List ℕ) (n : ℕ) (same : (i : ℕ) → 768 ≤ i → i < n → get_or g i 0 ≡ get_or f i 0) where
  pub same_slot : (j m : ℕ) → entry_start m ≤ n → j < m → slot_at g j ≡ slot_at f j
  unfolding u16_at
  same_slot j m h l = rw (same (entry_start j) (omega arith) (omega arith), same (entry_start j + 1) (omega arith) (omega arith))

  same_occurs : (slot i m : ℕ) → entry_start m ≤ n → slot_occurs g slot i m ≡ slot_occurs f slot i m
  unfolding slot_occurs
  same_occurs slot i m h =
      same_scan (λ j. eqb (slot_at g j) slot) (λ j. eqb (slot_at f j) slot) (λ j. true) (λ j. true) false i (m - i)
      (λ j l u. (rw (same_slot j m h (omega arith)), refl))

  same_shares : (m : ℕ) → entry_start m ≤ n → shares_slot g m ≡ shares_slot f m
  unfolding shares_slot
  same_shares m h =
      same_scan (λ i. slot_occurs g (slot_at g i) (i + 1) m) (λ i. slot_occurs f (slot_at f i) (i + 1) m) (λ i. true) (λ i. true) false 0 (m - 0)
      (λ j l u. (rw (same_slot j m h (omega arith), same_occurs (slot_at f j) (j + 1) m h), refl))

  pub same_table : (h : Fields) → (h.ctv ≡ 2 → entry_start h.cte ≤ n) → color_table_rules g h ≡ color_table_rules f h
  same_table h entries =
      rw (same_and (eqb h.ctv 2) (shares_slot g h.cte) (shares_slot f h.cte)
      (λ t. same_shares h.cte (entries (eqb-true h.ctv 2 t))))

module _ (g f : List ℕ) (n : ℕ) (same : (i : ℕ) → i < n → get_or g i 0 ≡ get_or f i 0) where
  pub same_fields : 1024 ≤ n → fields_of g ≡ fields_of f
  same_fields h =
      let w = same_u16 g f n same in
      let d = same_u32 g f n same in
      λ i.
      record {
        htc = w 0 (omega arith) i;
        wtf = record { 0 = w 2 (omega arith) i };
        dtc = w 4 (omega arith) i;
        ppl = d 184 (omega arith) i;
        nol = d 188 (omega arith) i;
        drs = w 192 (omega arith) i;
        slo = same 194 (omega arith) i;
        scn = same 195 (omega arith) i;
        ver = same 511 (omega arith) i;
        ctv = w 532 (omega arith) i;
        cte = d 536 (omega arith) i;
      }

  -- but for the length, which the frame's rules look at
  pub rules_but_length : 1024 ≤ n → ((fields_of f).ctv ≡ 2 → entry_start (fields_of f).cte ≤ n)
      → rules_to22 g ≡ frame_rules (bytes_in g) (fields_of f) ++ (field_rules (fields_of f) ++ color_table_rules f (fields_of f))
  rules_but_length h entries =
      let x = fields_of f in
      ap (λ (y : Fields). frame_rules (bytes_in g) y ++ (field_rules y ++ color_table_rules g y)) (same_fields h)
      ∙ ap (λ (y : List Rule). frame_rules (bytes_in g) x ++ (field_rules x ++ y)) (same_table g f n (λ i low l. same i l) x entries)

  pub same_rules : 1024 ≤ n → ((fields_of f).ctv ≡ 2 → entry_start (fields_of f).cte ≤ n) → length g ≡ length f
      → rules_to22 g ≡ rules_to22 f
  same_rules h entries e = rules_but_length h entries ∙ rw e
