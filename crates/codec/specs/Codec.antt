-- A codec is what a data type says of the body of a scanline, in both directions. `Table` has one for each data type.
use Rattle.std.specs.Prelude.{ℕ, cond, List, eqb}
use Rattle.units.specs.Over.{zeros}
use Rattle.units.specs.Rules.{Rule}
pub use Rattle.codec.specs.Extent.{Extent}
unfoldable pub use Rattle.codec.specs.Extent.{kept, taken, fault}

pub record Codec : Type 0 where
  pub data_type : ℕ
  -- with a header: the statuses (the paper's marks) that a body can have, in their order, for a row of p pixels: 6 a wrong
  -- count of words, 10 a spare bit set, 7 a total above p, 8 a total below p
  pub rules : List ℕ → ℕ → List Rule
  -- the pixels of a body, for a row of p
  pub pixels : List ℕ → ℕ → List ℕ
  -- Without a header: what a scanline of p pixels takes of the bytes that are left. Runs or pairs are taken one at a time and
  -- the first fault counts: 1 the next one runs past the file, 7 the total is above p; both lose the line. 10 does not.
  pub extent : List ℕ → ℕ → Extent
  -- the body that is written of a row, with headers (SCN 1) or without
  pub body : ℕ → List ℕ → List ℕ
  -- the highest pixel that can be written
  pub highest : ℕ

-- the row that a status leaves: the pixels where it is 0, else zeros
abbrev pub row_of : ℕ → ℕ → List ℕ → List ℕ
row_of status p pixels = cond (eqb status 0) pixels (zeros p)
