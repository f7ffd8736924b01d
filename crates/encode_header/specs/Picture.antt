-- "Writing a sheet", "Given": what the writer is handed.
use Rattle.std.specs.Prelude.{ℕ, ◌*◌, List, take, drop}

-- the fields by the format's names, DRS as its 16 stored bits; a color table of bytes, and pixels
pub record Picture : Type 0 where
  pub dtc : ℕ
  pub ppl : ℕ
  pub nol : ℕ
  pub slo : ℕ
  pub scn : ℕ
  pub drs : ℕ
  pub table : List ℕ
  pub pixels : List ℕ

-- the pixels of all rows, and those of row k, from 0
abbrev pub picture_pixels : Picture → List ℕ
picture_pixels i = take (i.nol * i.ppl) i.pixels

abbrev pub row_at : Picture → ℕ → List ℕ
row_at i k = take i.ppl (drop (k * i.ppl) i.pixels)
