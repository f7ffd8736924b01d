-- A written file is not rejected: no rule of the table holds. So its header is the one given, and its scanlines start after it.
use Rattle.std.specs.Prelude.{ℕ, ◌+◌, ◌-◌, ◌*◌, ◌≤◌, ◌<◌, ◌≡◌, refl, Bool, true, false, cond, ◌||◌, List, ◌++◌, length, eqb}
use Rattle.std.proofs.Common.{sym, ◌∙◌, ap, subst, append_assoc, arith, length-append, le-ltb, eqb-true}
use Rattle.std.proofs.lemmas.List.{length-replicate}
use Rattle.units.specs.Counts.{n_blocks, n_bytes, bytes_of_blocks, bytes_in}
use Rattle.units.specs.Over.{zeros}
use Rattle.units.specs.Rules.{first}
use Rattle.units.proofs.Laws.Rules.{first_later}
use Rattle.fields.specs.declared.Fields.{Fields}
use Rattle.fields.specs.Fields.{fields_of, header_blocks}
use Rattle.header.specs.Resolution.{resolution_of}
use Rattle.limits.proofs.Laws.Limits.{none-rejects}
use Rattle.header.specs.Rejections.{frame_rules, field_rules, color_table_rules, rules_to22, rejection_to22}
use Rattle.header.specs.Reading.{header_reading, field_numbers}
use Rattle.layout.specs.Chain.{sheet_of}
use Rattle.layout.specs.Reading.{buffer_rules, raster_rejection}
use Rattle.encode_header.specs.Picture.{Picture}
use Rattle.encode_header.specs.Header.{table_area}
use Rattle.encode_raster.specs.File.{lines_of, file_bytes}
use Rattle.read_back.specs.Statement.{given_header}
use Rattle.read_back.proofs.Laws.Given.{Given}
use Rattle.read_back.proofs.Laws.Head.{front, file_is, length_front, ctv_if, blocks_if, fields_if, given_fields, blocks_low, fields_are}
use Rattle.read_back.proofs.Laws.Chain.{Written}

-- the length of the header by its blocks
area_if : (none full : Bool) (table : List ℕ) → eqb (length table) 768 ≡ full → (none || full) ≡ true
    → 768 + length (cond none (zeros ((bytes_of_blocks (n_blocks 2)).0 - 768)) table) ≡ (bytes_of_blocks (blocks_if none)).0
area_if true full table e h = omega (arith, length-replicate {A = ℕ} 256 0)
area_if false true table e h = omega (arith, eqb-true (length table) 768 e)
area_if false false table e h = absurd (let z : ◌≡◌ {A = ℕ} 0 1 = cc in omega arith)

-- the rules, for a picture without a table (true) or with one
frame_none : (i : Picture) (none : Bool) (n : ℕ) → (bytes_of_blocks (blocks_if none)).0 ≤ n → n ≤ 2147483647 → first (frame_rules (n_bytes n) (fields_if i none)) ≡ 0
frame_none i true n l u = simp (le-ltb 2147483647 n u, le-ltb n 1024 l)
frame_none i false n l u = simp (le-ltb 2147483647 n u, le-ltb n 1024 (omega arith), le-ltb n 1536 l)

table_none : (i : Picture) (none : Bool) (f : List ℕ) → first (color_table_rules f (fields_if i none)) ≡ 0
table_none i true f = refl
table_none i false f = refl

module _ (i : Picture) (g : Given i) where
  field_none : (none : Bool) → first (field_rules (fields_if i none)) ≡ 0
  field_none none = none-rejects i.dtc i.slo i.scn i.ppl i.nol g.limits

  abbrev none : Bool
  none = eqb (length i.table) 0

  abbrev pub headed : List ℕ
  headed = front i ++ table_area i.table

  length-headed : length headed ≡ (bytes_of_blocks (blocks_if none)).0
  length-headed =
      omega (arith, length-append (front i) (table_area i.table), length_front i, area_if none (eqb (length i.table) 768) i.table refl g.table)

  split : file_bytes i ≡ headed ++ lines_of i i.nol
  split = file_is i ∙ sym (append_assoc (front i) (table_area i.table) (lines_of i i.nol))

  rules_none : first (frame_rules (bytes_in (file_bytes i)) (given_fields i)
      ++ (field_rules (given_fields i) ++ color_table_rules (file_bytes i) (given_fields i))) ≡ 0
  rules_none =
      let l : (bytes_of_blocks (blocks_if none)).0 ≤ length (file_bytes i) =
      omega (arith, ap length split, length-append headed (lines_of i i.nol), length-headed) in
      first_later (frame_rules (bytes_in (file_bytes i)) (given_fields i)) (field_rules (given_fields i) ++ color_table_rules (file_bytes i) (given_fields i)) tt
      (frame_none i none (length (file_bytes i)) l g.size)
      ∙ first_later (field_rules (given_fields i)) (color_table_rules (file_bytes i) (given_fields i)) tt (field_none none)
      ∙ table_none i none (file_bytes i)

-- the table of a file by its fields
rejection_by : (f : List ℕ) (h : Fields) → fields_of f ≡ h → first (frame_rules (bytes_in f) h ++ (field_rules h ++ color_table_rules f h)) ≡ 0
    → first (rules_to22 f) ≡ 0
rejection_by f h e r = subst (λ (x : Fields). first (frame_rules (bytes_in f) x ++ (field_rules x ++ color_table_rules f x)) ≡ 0) (sym e) r

buffers_by : (f : List ℕ) (h : Fields) (pixels marks : ℕ) → fields_of f ≡ h → h.nol * h.ppl ≤ pixels → h.nol ≤ marks
    → first (buffer_rules (sheet_of f).ppl (sheet_of f).nol pixels marks) ≡ 0
buffers_by f h pixels marks e l m =
    subst (λ (x : Fields). first (buffer_rules x.ppl x.nol pixels marks) ≡ 0) (sym e)
    (simp (le-ltb pixels (h.nol * h.ppl) l, le-ltb marks h.nol m))

blocks_are : (i : Picture) (none : Bool) → (header_blocks (fields_if i none)).0 ≡ (blocks_if none).0
blocks_are i none = omega (arith, blocks_low none)

module _ (i : Picture) (b : i.drs < 65536) (g : Given i) where
  all_none : first (rules_to22 (file_bytes i)) ≡ 0
  all_none = rejection_by (file_bytes i) (given_fields i) (fields_are i b g) (rules_none i g)

  pub not_rejected : rejection_to22 (file_bytes i) ≡ 0
  unfolding rejection_to22
  not_rejected = all_none

  pub raster-not_rejected : (pixels marks : ℕ) → i.nol * i.ppl ≤ pixels → i.nol ≤ marks
      → raster_rejection (file_bytes i) pixels marks ≡ 0
  unfolding raster_rejection
  raster-not_rejected pixels marks l m =
      let f = file_bytes i in
      first_later (rules_to22 f) (buffer_rules (sheet_of f).ppl (sheet_of f).nol pixels marks) tt all_none
      ∙ buffers_by f (given_fields i) pixels marks (fields_are i b g) l m

  pub written : Written i (sheet_of (file_bytes i)) (headed i g)
  written =
      let e = fields_are i b g in
      record {
        file = split i g;
        starts =
            ap (λ (h : Fields). (bytes_of_blocks (header_blocks h)).0) e
            ∙ ap (λ (n : ℕ). (bytes_of_blocks (n_blocks n)).0) (blocks_are i (eqb (length i.table) 0))
            ∙ sym (length-headed i g);
        scn = ap (λ (h : Fields). h.scn) e;
        type = ap (λ (h : Fields). h.dtc) e;
        ppl = ap (λ (h : Fields). h.ppl) e;
      }

  pub header_is : header_reading (file_bytes i) ≡ given_header i
  header_is =
      let e = fields_are i b g in
      rw not_rejected
      (ap field_numbers e
      ∙ λ j.
      record {
        number = 0;
        data_type = i.dtc;
        blocks = blocks_are i (eqb (length i.table) 0) j;
        ppl = i.ppl;
        nol = i.nol;
        resolution = resolution_of i.drs;
        slo = i.slo;
        scn = i.scn;
        ctv = ctv_if (eqb (length i.table) 0);
        cte = 0;
      })
