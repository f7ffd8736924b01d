-- The header of a transcoded file: every byte is the old one but for the data type, so its fields are, it is not rejected, and it has the
-- same colors: both types are ink on paper.
use Rattle.std.specs.Prelude.{ℕ, ◌+◌, ◌*◌, ◌≤◌, ◌<◌, ◌≡◌, true, ◌⊎◌, List, ◌++◌, length, get_or, take}
use Rattle.std.proofs.Math.Path.{refl, ap, ap₂, subst⁻¹}
use Rattle.std.proofs.Common.{◌∙◌, inl, inr, arith, length-append, length-take-le, get_or-take}
use Rattle.std.proofs.Math.ListN.{get_or-append}
use Rattle.std.proofs.Math.Seq.{length-sets}
use Rattle.units.specs.Counts.{bytes_in}
use Rattle.units.specs.LittleEndian.{u16_at, u32_at}
use Rattle.units.specs.Rules.{first}
use Rattle.units.specs.Words.{two_bytes}
use Rattle.units.proofs.Laws.Over.{sets_misses}
use Rattle.units.proofs.Laws.Rules.{both_none, first_later}
use Rattle.codec.specs.Table.{is_data_type}
use Rattle.fields.specs.declared.Fields.{Fields}
use Rattle.fields.specs.Fields.{fields_of}
use Rattle.limits.proofs.Laws.Limits.{none-rejects}
use Rattle.header.specs.Rejections.{frame_rules, field_rules, color_table_rules, rejection_to22}
use Rattle.header.proofs.Laws.Accepted.{Accepted, accepted}
use Rattle.color.specs.Color.{is_inked, color_reading, plotter_reading}
use Rattle.layout.specs.Chain.{sheet_of}
use Rattle.isolation.proofs.Laws.Headers.{same_table}
use Rattle.trailing.proofs.Laws.Header.{frame_holds}
use Rattle.trailing.proofs.Laws.Colors.{same_color, same_plotter}
use Rattle.transcode_parts.specs.Headers.{other_type}
use Rattle.transcode.specs.File.{carried_header, new_lines, transcoded}
use Rattle.there_and_back.proofs.Laws.Levels.{TwoLevels}
use Rattle.there_and_back.proofs.Laws.Placing.{word_there}

-- the fields with another data type
abbrev pub with_type : ℕ → Fields → Fields
with_type t h =
    record {
      htc = h.htc;
      wtf = h.wtf;
      dtc = t;
      ppl = h.ppl;
      nol = h.nol;
      drs = h.drs;
      slo = h.slo;
      scn = h.scn;
      ver = h.ver;
      ctv = h.ctv;
      cte = h.cte;
    }

other_known : (t : ℕ) → TwoLevels t → is_data_type (other_type t) ≡ true
unfolding is_data_type
other_known t (inl e) = rw e
other_known t (inr e) = rw e

other_inked : (t ctv : ℕ) → TwoLevels t → is_inked (other_type t) ctv ≡ is_inked t ctv
other_inked t ctv (inl e) = rw e
other_inked t ctv (inr e) = rw e

module _ (f : List ℕ) (ok : rejection_to22 f ≡ 0) (two : TwoLevels (fields_of f).dtc) where
  a : Accepted f
  a = accepted f ok

  abbrev size : ℕ
  size = (sheet_of f).data_start

  abbrev type : ℕ
  type = other_type (fields_of f).dtc

  deep : 1024 ≤ size
  deep = omega (arith, a.blocks)

  length_front : length (take size f) ≡ size
  length_front = length-take-le size f a.inside

  pub length_carried : length (carried_header f) ≡ size
  length_carried = length-sets (take size f) 4 (two_bytes type) ∙ length_front

  pub is_split : transcoded f ≡ carried_header f ++ new_lines (sheet_of f) (sheet_of f).nol
  unfolding transcoded
  is_split = refl

  carried : (i : ℕ) → i < size → get_or (transcoded f) i 0 ≡ get_or (carried_header f) i 0
  carried i h =
      ap (λ (l : List ℕ). get_or l i 0) is_split
      ∙ get_or-append (carried_header f) (new_lines (sheet_of f) (sheet_of f).nol) 0 i (omega (arith, length_carried))

  elsewhere : (i : ℕ) → i < size → (4 ≤ i → i < 6 → ⊥) → get_or (transcoded f) i 0 ≡ get_or f i 0
  elsewhere i h n =
      carried i h ∙ sets_misses (take size f) 4 (two_bytes type) i n ∙ get_or-take size f i 0 h

  word : (i : ℕ) → i + 2 ≤ size → (i ≤ 2) ⊎ (6 ≤ i) → u16_at (transcoded f) i ≡ u16_at f i
  unfolding u16_at
  word i h (inl low) = rw (elsewhere i (omega arith) (λ x y. omega arith), elsewhere (i + 1) (omega arith) (λ x y. omega arith))
  word i h (inr high) = rw (elsewhere i (omega arith) (λ x y. omega arith), elsewhere (i + 1) (omega arith) (λ x y. omega arith))

  long : (i : ℕ) → i + 4 ≤ size → 6 ≤ i → u32_at (transcoded f) i ≡ u32_at f i
  unfolding u32_at
  long i h l = rw (word i (omega arith) (inr l), word (i + 2) (omega arith) (inr (omega arith)))

  type_there : u16_at (transcoded f) 4 ≡ type
  unfolding u16_at
  type_there =
      ap₂ (λ (x y : ℕ). x + 256 * y) (carried 4 (omega (arith, deep))) (carried 5 (omega (arith, deep)))
      ∙ word_there (take size f) 4 type (omega (arith, deep, length_front))

  pub fields_are : fields_of (transcoded f) ≡ with_type type (fields_of f)
  fields_are =
      let d = deep in
      λ i.
      record {
        htc = word 0 (omega arith) (inl (omega arith)) i;
        wtf = record { 0 = word 2 (omega arith) (inl (omega arith)) i };
        dtc = type_there i;
        ppl = long 184 (omega arith) (omega arith) i;
        nol = long 188 (omega arith) (omega arith) i;
        drs = word 192 (omega arith) (inr (omega arith)) i;
        slo = elsewhere 194 (omega arith) (λ x y. omega arith) i;
        scn = elsewhere 195 (omega arith) (λ x y. omega arith) i;
        ver = elsewhere 511 (omega arith) (λ x y. omega arith) i;
        ctv = word 532 (omega arith) (inr (omega arith)) i;
        cte = long 536 (omega arith) (omega arith) i;
      }

  length_deep : size ≤ length (transcoded f)
  length_deep = omega (arith, ap length is_split, length-append (carried_header f) (new_lines (sheet_of f) (sheet_of f).nol), length_carried)

  pub not_rejected : length (transcoded f) ≤ 2147483647 → rejection_to22 (transcoded f) ≡ 0
  unfolding rejection_to22
  not_rejected short =
      let g = transcoded f in
      let h = fields_of f in
      let h₂ = with_type type h in
      let parts = both_none (frame_rules (bytes_in f) h) (field_rules h ++ color_table_rules f h) tt ok in
      let others = both_none (field_rules h) (color_table_rules f h) tt parts.1 in
      let w = a.limits in
      let fields : first (field_rules h₂) ≡ 0 =
      none-rejects type h.slo h.scn h.ppl h.nol
      (record {
        known = other_known h.dtc two;
        slo_most = w.slo_most;
        scn_most = w.scn_most;
        ppl_least = w.ppl_least;
        ppl_most = w.ppl_most;
        nol_least = w.nol_least;
        nol_most = w.nol_most;
      }) in
      let table : color_table_rules g h₂ ≡ color_table_rules f h₂ =
      same_table g f size (λ i low l. elsewhere i l (λ x y. omega arith)) h₂ a.entries in
      subst⁻¹ (λ (x : Fields). first (frame_rules (bytes_in g) x ++ (field_rules x ++ color_table_rules g x)) ≡ 0) fields_are
      (first_later (frame_rules (bytes_in g) h₂) (field_rules h₂ ++ color_table_rules g h₂) tt
      (frame_holds h (bytes_in f) (bytes_in g) parts.0 short (omega (arith, deep, length_deep)) length_deep)
      ∙ first_later (field_rules h₂) (color_table_rules g h₂) tt fields
      ∙ ap first table
      ∙ others.1)

  module _ (also-ok : rejection_to22 (transcoded f) ≡ 0) (v : ℕ) where
    table_kept : (i : ℕ) → 768 ≤ i → i < size → get_or (transcoded f) i 0 ≡ get_or f i 0
    table_kept i low h = elsewhere i h (λ x y. omega arith)

    ctv_kept : (fields_of (transcoded f)).ctv ≡ (fields_of f).ctv
    ctv_kept = ap (λ (h : Fields). h.ctv) fields_are

    cte_kept : (fields_of (transcoded f)).cte ≡ (fields_of f).cte
    cte_kept = ap (λ (h : Fields). h.cte) fields_are

    pub color-kept : color_reading (transcoded f) v ≡ color_reading f v
    color-kept =
        same_color f (transcoded f) ok also-ok table_kept ctv_kept cte_kept v
        (ap (λ (h : Fields). is_inked h.dtc h.ctv) fields_are ∙ other_inked (fields_of f).dtc (fields_of f).ctv two)

    pub plotter_color-kept : plotter_reading (transcoded f) v ≡ plotter_reading f v
    plotter_color-kept = same_plotter f (transcoded f) ok also-ok table_kept ctv_kept cte_kept v
