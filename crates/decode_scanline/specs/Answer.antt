-- What reading a scanline into a row of pixels answers and leaves there.
use Rattle.std.specs.Prelude.{ℕ, ◌≡◌, List}
use Rattle.codec.specs.Extent.{Extent}
use Rattle.layout.specs.Scanline.{Reading, Step}

pub record IsLine (s : Step) (x : Reading) (r : Extent) (row : List ℕ) : Type 0 where
  pub status : r.status ≡ x.status
  pub lost : r.lost ≡ s.lost
  pub used : r.used.0 ≡ s.used.0
  pub row_is : row ≡ x.row
