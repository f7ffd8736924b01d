-- What scanning a scanline answers, and where its body and its body's first pixel are.
use Rattle.std.specs.Prelude.{ℕ, ◌≡◌, cond, List, eqb}
use Rattle.codec.specs.Extent.{Extent}
use Rattle.layout.specs.Scanline.{Reading, Step, head_of, pixel_offset}

pub record IsScan (s : Step) (x : Reading) (r : Extent) : Type 0 where
  pub status : r.status ≡ x.status
  pub lost : r.lost ≡ s.lost
  pub used : r.used.0 ≡ s.used.0

-- after the header, where there is one
abbrev pub body_start : ℕ → ℕ
body_start scn = cond (eqb scn 1) 8 0

-- the column of the body's first pixel: the pixel offset, where there is a header
abbrev pub first_column : ℕ → List ℕ → ℕ
first_column scn rest = cond (eqb scn 1) (pixel_offset (head_of rest)) 0
