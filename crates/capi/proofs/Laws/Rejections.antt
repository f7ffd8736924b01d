-- The numbers of rejections are 10 or above, so that no answer is taken for one.
use Rattle.std.specs.Prelude.{ℕ, ◌≤◌, ◌≡◌, refl, Bool, true, false, cond, List, eqb, ltb}
use Rattle.std.proofs.Common.{ap, arith, eqb-true}
use Rattle.std.proofs.lemmas.Bool.{eqb-false}
use Rattle.units.proofs.Laws.Rules.{first_from}
use Rattle.units.proofs.Laws.Scan.{either, scan_all}
use Rattle.fields.specs.Fields.{fields_of, header_blocks}
use Rattle.header.specs.Rejections.{rules_to22, rejection_to22, slot_at}
use Rattle.header.specs.Reading.{HeaderNumbers, rejected_numbers, field_numbers, header_reading}
use Rattle.header.proofs.Laws.Accepted.{accepted}
use Rattle.color.specs.Color.{ColorNumbers, no_color, entry_color, table_color, is_inked, color_reading, plotter_reading}

abbrev From10 : ℕ → Type 0
From10 n = (n ≡ 0 → ⊥) → 10 ≤ n

file-from : (f : List ℕ) → From10 (rejection_to22 f)
unfolding rejection_to22
file-from f = first_from 10 (rules_to22 f) tt

-- The answer of a file that is rejected has its number. No header that is read is that answer, since it has blocks.
pub header-from : (f : List ℕ) {n : ℕ} → rejected_numbers n ≡ header_reading f → 10 ≤ n
header-from f {n} = go (eqb (rejection_to22 f) 0) refl
  where
    go : (b : Bool) → eqb (rejection_to22 f) 0 ≡ b → rejected_numbers n ≡ cond b (field_numbers (fields_of f)) (rejected_numbers (rejection_to22 f)) → 10 ≤ n
    go true t e =
        let z : 0 ≡ (header_blocks (fields_of f)).0 = ap (λ (x : HeaderNumbers). x.blocks) e in
        absurd (omega (arith, z, (accepted f (eqb-true (rejection_to22 f) 0 t)).blocks))
    go false t e =
        let s : n ≡ rejection_to22 f = ap (λ (x : HeaderNumbers). x.number) e in
        rw s (file-from f (eqb-false (rejection_to22 f) 0 t))

-- of a color: the file's numbers, and 25
abbrev pub Numbered : ColorNumbers → Type 0
Numbered c = From10 c.number

none : Numbered (no_color 25)
none some = omega arith

found : {P : Type 0} → (◌≡◌ {A = ℕ} 0 0 → ⊥) → P
found some = absurd (some refl)

table_from : (f : List ℕ) (v : ℕ) → Numbered (table_color f v)
table_from f v =
    either Numbered (eqb (fields_of f).ctv 0) (either Numbered (ltb 255 v) none found)
    (either Numbered (eqb (fields_of f).ctv 1) (either Numbered (ltb 255 v) none found)
    (scan_all Numbered (λ i. eqb (slot_at f i) v) (entry_color f) (no_color 25) (λ j. found) none 0 _))

pub plotter_from : (f : List ℕ) (v : ℕ) → Numbered (plotter_reading f v)
plotter_from f v = either Numbered (eqb (rejection_to22 f) 0) (table_from f v) (file-from f)

pub color-from : (f : List ℕ) (v : ℕ) → Numbered (color_reading f v)
color-from f v =
    either Numbered (eqb (rejection_to22 f) 0)
    (either Numbered (is_inked (fields_of f).dtc (fields_of f).ctv)
    (either Numbered (eqb v 0) found (either Numbered (eqb v 1) found none)) (table_from f v))
    (file-from f)
