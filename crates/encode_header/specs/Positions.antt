-- "The sheet's header", the table of bytes: what stands at each byte of a header that is written, and zeros everywhere else.
use Rattle.std.specs.Prelude.{ℕ, ◌+◌, ◌-◌, ◌*◌, ◌≤◌, ◌<◌, ◌≡◌, cond, List, [], ◌∷◌, ◌++◌, length, get_or, take, drop, eqb}
use Rattle.units.specs.Counts.{words_of_blocks, bytes_of_blocks}
use Rattle.units.specs.LittleEndian.{u16_bytes, u32_bytes}
use Rattle.units.specs.Over.{zeros}
use Rattle.encode_header.specs.Picture.{Picture}
use Rattle.encode_header.specs.Header.{one_float, identity, ctv_of, blocks_of, header_bytes}

-- a field's byte in the paper's table, and the bytes that stand there
pub record Entry : Type 0 where
  pub at : ℕ
  pub bytes : List ℕ

abbrev pub entry : ℕ → List ℕ → Entry
entry at bytes = record { at = at; bytes = bytes }

-- The table in the paper's order. UTC, CFP, CTE, APP and APL, which are written as zeros, have no entry; a table of no bytes covers
-- none.
abbrev pub positions : Picture → List Entry
positions i =
    -- HTC, WTF, DTC
    entry 0 (u16_bytes 0x0908) ∷
    entry 2 (u16_bytes ((words_of_blocks (blocks_of i.table)).0 - 2)) ∷
    entry 4 (u16_bytes i.dtc) ∷
    -- TRN
    entry 56 identity ∷
    -- PPL, NOL, DRS, SLO, SCN
    entry 184 (u32_bytes i.ppl) ∷
    entry 188 (u32_bytes i.nol) ∷
    entry 192 (u16_bytes i.drs) ∷
    entry 194 (i.slo ∷ []) ∷
    entry 195 (i.scn ∷ []) ∷
    -- VER, ASR, CTV
    entry 511 (3 ∷ []) ∷
    entry 520 one_float ∷
    entry 532 (u16_bytes (ctv_of i.table)) ∷
    -- the table
    entry 768 i.table ∷
    []

abbrev pub Every : (Entry → Type 0) → List Entry → Type 0
Every P [] = Unit {0}
Every P (e ∷ es) = P e × Every P es

-- the entry's bytes stand at its byte of f
abbrev pub Stands : List ℕ → Entry → Type 0
Stands f e = take (length e.bytes) (drop e.at f) ≡ e.bytes

-- byte j is not one of the entry's
abbrev pub Misses : ℕ → Entry → Type 0
Misses j e = e.at ≤ j → j < e.at + length e.bytes → ⊥

-- the header of a picture at the start of f, field by field
pub record FieldsInPlace (i : Picture) (f : List ℕ) : Type 0 where
  pub fields : Every (Stands f) (positions i)
  pub zero_elsewhere : (j : ℕ) → j < length (header_bytes i) → Every (Misses j) (positions i) → get_or f j 0 ≡ 0
  -- TRN is the identity: of its sixteen floats of eight bytes, row after row, those on the diagonal are 1.0 and the others 0.0
  pub matrix : (r c : ℕ) → r < 4 → c < 4 → take 8 (drop (56 + 8 * (4 * r + c)) f) ≡ cond (eqb r c) one_float (zeros 8)
  -- two blocks, or three with a table, which has 768 bytes
  pub no_table : length i.table ≡ 0 → (length (header_bytes i) ≡ (bytes_of_blocks (blocks_of i.table)).0) × (length (header_bytes i) ≡ 1024)
  pub with_table : length i.table ≡ 768 → (length (header_bytes i) ≡ (bytes_of_blocks (blocks_of i.table)).0) × (length (header_bytes i) ≡ 1536)

-- of every header, whatever follows it. `fields_in_place` proves it.
abbrev pub AllFieldsInPlace : Type 0
AllFieldsInPlace = (i : Picture) (rest : List ℕ) → FieldsInPlace i (header_bytes i ++ rest)
