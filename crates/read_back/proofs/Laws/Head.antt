-- The header of a written file: its fields are those given.
use Rattle.std.specs.Prelude.{ℕ, ◌+◌, ◌-◌, ◌*◌, ◌/◌, ◌%◌, ◌≤◌, ◌<◌, ◌≡◌, Bool, true, false, cond, List, ◌++◌, length, take, eqb}
use Rattle.std.proofs.Math.Path.{refl}
use Rattle.std.proofs.Common.{arith}
use Rattle.units.specs.declared.Blocks.{Blocks}
use Rattle.units.specs.Counts.{n_blocks, n_words, words_of_blocks}
use Rattle.units.specs.LittleEndian.{u16_at, u32_at}
use Rattle.fields.specs.declared.Fields.{Fields}
use Rattle.fields.specs.Fields.{fields_of}
use Rattle.codec.proofs.Laws.Table.{type_most}
use Rattle.encode_header.specs.Picture.{Picture}
use Rattle.encode_header.specs.Header.{header_bytes, table_area}
use Rattle.encode_raster.specs.File.{lines_of, file_bytes}
use Rattle.read_back.proofs.Laws.Given.{Given}

-- the file: the header up to the table area, that area, and the scanlines
pub front : Picture → List ℕ
front i = take 768 (header_bytes i)

module _ (i : Picture) where
  pub file_is : file_bytes i ≡ front i ++ (table_area i.table ++ lines_of i i.nol)
  unfolding file_bytes front
  file_is = refl

  pub length_front : length (front i) ≡ 768
  unfolding front
  length_front = refl

-- the fields, for a picture without a table (true) or with one
abbrev pub ctv_if : Bool → ℕ
ctv_if none = cond none 0 1

abbrev pub blocks_if : Bool → Blocks
blocks_if none = n_blocks (cond none 2 3)

abbrev pub fields_if : Picture → Bool → Fields
fields_if i none =
    record {
      htc = 0x0908;
      wtf = n_words ((words_of_blocks (blocks_if none)).0 - 2);
      dtc = i.dtc;
      ppl = i.ppl;
      nol = i.nol;
      drs = i.drs;
      slo = i.slo;
      scn = i.scn;
      ver = 3;
      ctv = ctv_if none;
      cte = 0;
    }

abbrev pub given_fields : Picture → Fields
given_fields i = fields_if i (eqb (length i.table) 0)

-- numbers of two and of four bytes come back
stored : (v : ℕ) → v < 65536 → v % 256 + 256 * (v / 256 % 256) ≡ v
stored v h = omega arith

stored_long : (v : ℕ) → v < 4294967296
    → (v % 256 + 256 * (v / 256 % 256)) + 65536 * (v / 65536 % 256 + 256 * (v / 65536 / 256 % 256)) ≡ v
stored_long v h = omega arith

pub ctv_low : (none : Bool) → ctv_if none ≤ 1
ctv_low true = omega arith
ctv_low false = omega arith

pub blocks_low : (none : Bool) → (2 ≤ (blocks_if none).0) × ((blocks_if none).0 ≤ 3)
blocks_low true = omega arith
blocks_low false = omega arith

module _ (i : Picture) (b : i.drs < 65536) (g : Given i) where
  c : ctv_if (eqb (length i.table) 0) ≤ 1
  c = ctv_low (eqb (length i.table) 0)

  wtf_is : u16_at (file_bytes i) 2 ≡ (given_fields i).wtf.0
  unfolding file_bytes u16_at
  wtf_is = stored (given_fields i).wtf.0 (omega (arith, blocks_low (eqb (length i.table) 0)))

  dtc_is : u16_at (file_bytes i) 4 ≡ i.dtc
  unfolding file_bytes u16_at
  dtc_is = stored i.dtc (omega (arith, type_most i.dtc g.limits.known))

  ppl_is : u32_at (file_bytes i) 184 ≡ i.ppl
  unfolding file_bytes u16_at u32_at
  ppl_is = stored_long i.ppl (omega (arith, g.limits.ppl_most))

  nol_is : u32_at (file_bytes i) 188 ≡ i.nol
  unfolding file_bytes u16_at u32_at
  nol_is = stored_long i.nol (omega (arith, g.limits.nol_most))

  drs_is : u16_at (file_bytes i) 192 ≡ i.drs
  unfolding file_bytes u16_at
  drs_is = stored i.drs b

  ctv_is : u16_at (file_bytes i) 532 ≡ (given_fields i).ctv
  unfolding file_bytes u16_at
  ctv_is = stored (given_fields i).ctv (omega (arith, c))

  pub fields_are : fields_of (file_bytes i) ≡ given_fields i
  unfolding file_bytes u16_at u32_at
  fields_are =
      λ j.
      record {
        htc = 0x0908;
        wtf = record { 0 = wtf_is j };
        dtc = dtc_is j;
        ppl = ppl_is j;
        nol = nol_is j;
        drs = drs_is j;
        slo = i.slo;
        scn = i.scn;
        ver = 3;
        ctv = ctv_is j;
        cte = 0;
      }
