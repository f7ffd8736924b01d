-- "Numbers a call is refused with", 10 to 22: the rejections of a file, in the order in which they are checked.
use Rattle.std.specs.Prelude.{ℕ, ◌+◌, ◌-◌, ◌*◌, ◌≤◌, ◌<◌, ◌↔◌, ◌≡◌, Bool, true, false, not, ◌&&◌, List, [], ◌∷◌, ◌++◌, eqb, ltb}
use Rattle.units.specs.declared.Bytes.{Bytes}
use Rattle.units.specs.declared.Words.{Words}
use Rattle.units.specs.Counts.{n_blocks, n_words, words_of_blocks, bytes_of_blocks, bytes_of_words, bytes_in}
use Rattle.units.specs.LittleEndian.{u16_at}
use Rattle.units.specs.Rules.{Rule, rule, first}
use Rattle.units.specs.Scan.{scan}
use Rattle.fields.specs.declared.Fields.{Fields}
use Rattle.fields.specs.Fields.{fields_of, header_words, header_blocks}
use Rattle.limits.specs.Limits.{limit_rules}

-- the byte where the Environ-V entry i, from 0, starts: each entry is four words, slot, red, green, blue
abbrev pub entry_start : ℕ → ℕ
entry_start i = 768 + (bytes_of_words (n_words (4 * i))).0

abbrev pub slot_at : List ℕ → ℕ → ℕ
slot_at f i = u16_at f (entry_start i)

-- an entry from the one numbered i up to n has this slot
unfoldable pub slot_occurs : List ℕ → ℕ → ℕ → ℕ → Bool
slot_occurs f slot i n = scan (λ j. eqb (slot_at f j) slot) (λ j. true) false i (n - i)

-- two of the first n entries share a slot
unfoldable pub shares_slot : List ℕ → ℕ → Bool
shares_slot f n = scan (λ i. slot_occurs f (slot_at f i) (i + 1) n) (λ i. true) false 0 (n - 0)

-- the file's length, the header's marks and its length
abbrev pub frame_rules : Bytes → Fields → List Rule
frame_rules size h =
    rule 10 (ltb 2147483647 size.0) ∷
    rule 11 (ltb size.0 1024) ∷
    rule 12 (not (eqb h.htc 0x0908)) ∷
    rule 13 (not (eqb (words_of_blocks (header_blocks h)).0 (header_words h).0)) ∷
    rule 13 (ltb (header_blocks h).0 2) ∷
    rule 14 (ltb size.0 (bytes_of_blocks (header_blocks h)).0) ∷
    rule 15 (not (eqb h.ver 3)) ∷
    []

-- the limits of the fields
abbrev pub field_rules : Fields → List Rule
field_rules h = limit_rules h.dtc h.slo h.scn h.ppl h.nol

-- the color table
abbrev pub color_table_rules : List ℕ → Fields → List Rule
color_table_rules f h =
    rule 21 (ltb 2 h.ctv) ∷
    rule 21 (eqb h.ctv 1 && ltb (header_blocks h).0 3) ∷
    rule 21 (eqb h.ctv 2 && eqb h.cte 0) ∷
    rule 21 (eqb h.ctv 2 && ltb 256 h.cte) ∷
    rule 21 (eqb h.ctv 2 && ltb (bytes_of_blocks (header_blocks h)).0 (entry_start h.cte)) ∷
    rule 22 (eqb h.ctv 2 && shares_slot f h.cte) ∷
    []

-- A file's rules are composed by name, up to a number: those to 22 here. Later requests add rulesTo32 and rulesTo33 of these and
-- their own, and each call names the rules that it has.
abbrev pub rules_to22 : List ℕ → List Rule
rules_to22 f = frame_rules (bytes_in f) (fields_of f) ++ (field_rules (fields_of f) ++ color_table_rules f (fields_of f))

-- the number up to 22 that a file is rejected with, or 0
unfoldable pub rejection_to22 : List ℕ → ℕ
rejection_to22 f = first (rules_to22 f)

-- "WTF not 256n - 2 for an n from 2 to 256": the two rules of 13 hold for no header whose WTF is of that form, and for every
-- other one of them does. `rules_13` proves it.
abbrev pub WholeBlocks : Words → Type 0
WholeBlocks wtf = (n : ℕ) × (2 ≤ n) × (n ≤ 256) × (wtf.0 ≡ (words_of_blocks (n_blocks n)).0 - 2)

abbrev pub Rules13 : Type 0
Rules13 =
    (h : Fields) → h.wtf.0 < 65536
    → (((words_of_blocks (header_blocks h)).0 ≡ (header_words h).0) × (2 ≤ (header_blocks h).0)) ↔ WholeBlocks h.wtf
