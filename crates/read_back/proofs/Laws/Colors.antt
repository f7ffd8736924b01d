-- The colors of a written file are those of the table, or without one grays, and ink on paper in types 1 and 9.
use Rattle.std.specs.Prelude.{ℕ, ◌+◌, ◌*◌, ◌<◌, ◌≡◌, refl, Bool, true, false, cond, List, ◌++◌, length, get_or, eqb, ltb}
use Rattle.std.proofs.Common.{sym, ◌∙◌, ap, arith, get_or-append-add, eqb-true}
use Rattle.std.proofs.Math.ListN.{get_or-append}
use Rattle.units.specs.LittleEndian.{byte_at}
use Rattle.fields.specs.declared.Fields.{Fields}
use Rattle.fields.specs.Fields.{fields_of}
use Rattle.color.specs.Color.{scaled, color, no_color, gray_color, igds_color, environ_color, table_color, is_inked, ink_color, color_reading, plotter_reading}
use Rattle.color.proofs.Laws.Colors.{igds_is}
use Rattle.encode_header.specs.Picture.{Picture}
use Rattle.encode_header.specs.Header.{table_area}
use Rattle.encode_raster.specs.File.{lines_of, file_bytes}
use Rattle.read_back.specs.Statement.{given_plotter_color, given_color}
use Rattle.read_back.proofs.Laws.Given.{Given}
use Rattle.read_back.proofs.Laws.Head.{front, file_is, length_front, ctv_if, fields_are}
use Rattle.read_back.proofs.Laws.Accepted.{not_rejected}

-- a byte of the table area
area_byte : (i : Picture) (n : ℕ) → n < length (table_area i.table) → byte_at (file_bytes i) (768 + n) ≡ get_or (table_area i.table) n 0
area_byte i n h =
    let area = table_area i.table in
    let lines = lines_of i i.nol in
    ap (λ (f : List ℕ). get_or f (768 + n) 0) (file_is i)
    ∙ ap (λ (j : ℕ). get_or (front i ++ (area ++ lines)) (j + n) 0) (sym (length_front i))
    ∙ get_or-append-add (front i) (area ++ lines) n 0
    ∙ get_or-append area lines 0 n h

-- with a table
abbrev Bytes768 : List ℕ → List ℕ → Type 0
Bytes768 f table = (n : ℕ) → n < 768 → byte_at f (768 + n) ≡ get_or table n 0

igds-of : (f table : List ℕ) → Bytes768 f table → (v : ℕ)
    → igds_color f v
    ≡ cond (ltb 255 v) (no_color 25) (color (scaled (get_or table (3 * v) 0)) (scaled (get_or table (3 * v + 1) 0)) (scaled (get_or table (3 * v + 2) 0)))
igds-of f table h v =
    let s : 768 + 3 * v + 1 ≡ 768 + (3 * v + 1) = omega arith in
    let u : 768 + 3 * v + 2 ≡ 768 + (3 * v + 2) = omega arith in
    igds_is f v (get_or table (3 * v) 0) (get_or table (3 * v + 1) 0) (get_or table (3 * v + 2) 0)
    (λ l. (h (3 * v) (omega arith), (ap (byte_at f) s ∙ h (3 * v + 1) (omega arith), ap (byte_at f) u ∙ h (3 * v + 2) (omega arith))))

-- by whether there is one
color_if : (f table : List ℕ) (ctv v : ℕ) (none : Bool) → ctv ≡ ctv_if none → (none ≡ false → Bytes768 f table)
    → cond (eqb ctv 0) (gray_color v) (cond (eqb ctv 1) (igds_color f v) (environ_color f (fields_of f).cte v))
    ≡ cond none (gray_color v)
    (cond (ltb 255 v) (no_color 25) (color (scaled (get_or table (3 * v) 0)) (scaled (get_or table (3 * v + 1) 0)) (scaled (get_or table (3 * v + 2) 0))))
color_if f table ctv v true e h = rw e
color_if f table ctv v false e h = rw e (igds-of f table (h refl) v)

table_bytes : (i : Picture) → Given i → eqb (length i.table) 0 ≡ false → Bytes768 (file_bytes i) i.table
table_bytes i g e n h =
    let t = rw e at g.table in
    let l : length i.table ≡ 768 = eqb-true (length i.table) 768 t in
    let a : table_area i.table ≡ i.table = rw e in
    area_byte i n (omega (arith, ap length a)) ∙ ap (λ (x : List ℕ). get_or x n 0) a

module _ (i : Picture) (b : i.drs < 65536) (g : Given i) (v : ℕ) where
  table_is : table_color (file_bytes i) v ≡ given_plotter_color i v
  table_is =
      color_if (file_bytes i) i.table (fields_of (file_bytes i)).ctv v (eqb (length i.table) 0)
      (ap (λ (h : Fields). h.ctv) (fields_are i b g)) (table_bytes i g)

  pub plotter_colors_are : plotter_reading (file_bytes i) v ≡ given_plotter_color i v
  plotter_colors_are = rw (not_rejected i b g) table_is

  pub colors_are : color_reading (file_bytes i) v ≡ given_color i v
  colors_are =
      rw (not_rejected i b g)
      (λ j. cond (is_inked (fields_are i b g j).dtc (fields_are i b g j).ctv) (ink_color v) (table_is j))
