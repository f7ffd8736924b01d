-- What reading a header answers, as the paper's numbers.
use Rattle.std.specs.Prelude.{ℕ, cond, List, eqb, Result, Ok, Err}
use Rattle.refusals.specs.declared.Rejection.{Rejection}
use Rattle.refusals.specs.Rejections.{number_of}
use Rattle.fields.specs.declared.Fields.{Fields}
use Rattle.header.specs.declared.reading.Header.{Header}
use Rattle.fields.specs.Fields.{fields_of, header_blocks}
use Rattle.header.specs.Resolution.{resolution, resolution_numbers, resolution_of, ResolutionNumbers}
use Rattle.header.specs.Rejections.{rejection_to22}

-- the number of the rejection or 0, and the fields in the paper's order
pub record HeaderNumbers : Type 0 where
  pub number : ℕ
  pub data_type : ℕ
  pub blocks : ℕ
  pub ppl : ℕ
  pub nol : ℕ
  pub resolution : ResolutionNumbers
  pub slo : ℕ
  pub scn : ℕ
  pub ctv : ℕ
  pub cte : ℕ

-- a rejection: all else is zero
abbrev pub rejected_numbers : ℕ → HeaderNumbers
rejected_numbers n =
    record {
      number = n;
      data_type = 0;
      blocks = 0;
      ppl = 0;
      nol = 0;
      resolution = resolution 0 0;
      slo = 0;
      scn = 0;
      ctv = 0;
      cte = 0;
    }

abbrev pub field_numbers : Fields → HeaderNumbers
field_numbers h =
    record {
      number = 0;
      data_type = h.dtc;
      blocks = (header_blocks h).0;
      ppl = h.ppl;
      nol = h.nol;
      resolution = resolution_of h.drs;
      slo = h.slo;
      scn = h.scn;
      ctv = h.ctv;
      cte = h.cte;
    }

-- the reading of a header
abbrev pub header_reading : List ℕ → HeaderNumbers
header_reading f = cond (eqb (rejection_to22 f) 0) (field_numbers (fields_of f)) (rejected_numbers (rejection_to22 f))

-- the paper's numbers of an answer
abbrev pub header_numbers : Result Header Rejection → HeaderNumbers
header_numbers (Err r) = rejected_numbers (number_of r)
header_numbers (Ok h) =
    record {
      number = 0;
      data_type = h.data_type;
      blocks = h.blocks.0;
      ppl = h.ppl;
      nol = h.nol;
      resolution = resolution_numbers h.resolution;
      slo = h.slo;
      scn = h.scn;
      ctv = h.ctv;
      cte = h.cte;
    }
