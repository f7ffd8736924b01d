-- "Writing a sheet", "Header": the bytes of a header of two blocks, or of three with a color table.
use Rattle.std.specs.Prelude.{ℕ, ◌+◌, ◌-◌, ◌*◌, cond, List, [], ◌∷◌, ◌++◌, length, eqb}
use Rattle.units.specs.declared.Blocks.{Blocks}
use Rattle.units.specs.declared.Bytes.{Bytes}
use Rattle.units.specs.Counts.{n_blocks, n_bytes, words_of_blocks, bytes_of_blocks}
use Rattle.units.specs.LittleEndian.{u16_bytes, u32_bytes}
use Rattle.units.specs.Over.{zeros}
use Rattle.encode_header.specs.Picture.{Picture}

-- the 64-bit float 1.0, and the identity matrix of sixteen floats, row after row
abbrev pub one_float : List ℕ
one_float = zeros 6 ++ (0xf0 ∷ (0x3f ∷ []))

abbrev pub identity_row : ℕ → List ℕ
identity_row n = zeros (8 * n) ++ (one_float ++ zeros (24 - 8 * n))

abbrev pub identity : List ℕ
identity = identity_row 0 ++ (identity_row 1 ++ (identity_row 2 ++ identity_row 3))

-- CTV: 1, IGDS, where there is a table, else 0
abbrev pub ctv_of : List ℕ → ℕ
ctv_of table = cond (eqb (length table) 0) 0 1

abbrev pub blocks_of : List ℕ → Blocks
blocks_of table = n_blocks (cond (eqb (length table) 0) 2 3)

-- the table area: the table, or what is left of block two
abbrev pub table_area : List ℕ → List ℕ
table_area table = cond (eqb (length table) 0) (zeros ((bytes_of_blocks (n_blocks 2)).0 - 768)) table

-- what stands before the table area, and the area
abbrev pub header_size : List ℕ → Bytes
header_size table = n_bytes (768 + length (table_area table))

abbrev pub header_bytes : Picture → List ℕ
header_bytes i =
    -- 0: HTC, WTF, DTC
    u16_bytes 0x0908 ++ (u16_bytes ((words_of_blocks (blocks_of i.table)).0 - 2) ++ (u16_bytes i.dtc
    -- 56: TRN
    ++ (zeros 50 ++ (identity
    -- 184: PPL, NOL, DRS, SLO, SCN
    ++ (u32_bytes i.ppl ++ (u32_bytes i.nol ++ (u16_bytes i.drs ++ (i.slo ∷ (i.scn ∷ [])
    -- 511: VER
    ++ (zeros 315 ++ (3 ∷ []
    -- 520: ASR
    ++ (zeros 8 ++ (one_float
    -- 532: CTV
    ++ (zeros 4 ++ (u16_bytes (ctv_of i.table)
    -- 768: the table
    ++ (zeros 234 ++ table_area i.table)))))))))))))))
