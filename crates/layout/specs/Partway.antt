-- "Lines that start partway", said of two readings: a scanline with an offset is a shorter one, without, behind blank pixels.
use Rattle.std.specs.Prelude.{ℕ, ◌≤◌, ◌≡◌, List, ◌++◌}
use Rattle.std.proofs.lemmas.List.Edits.{sets}
use Rattle.units.specs.LittleEndian.{u16_bytes}
use Rattle.units.specs.Over.{zeros}
use Rattle.layout.specs.Scanline.{pixel_offset, body_width, reading}

-- the header with the offset 0
unfoldable pub from_start : List ℕ → List ℕ
from_start hd = sets hd 6 (u16_bytes 0)

pub record StartsPartway (t p number : ℕ) (hd body : List ℕ) : Type 0 where
  pub status : (reading t p number hd body).status ≡ (reading t (body_width p hd) number (from_start hd) body).status
  pub row : (reading t p number hd body).row ≡ zeros (pixel_offset hd) ++ (reading t (body_width p hd) number (from_start hd) body).row

-- of every type, body and header whose offset is not above p
abbrev pub AllStartPartway : Type 0
AllStartPartway = (t p number : ℕ) (hd body : List ℕ) → pixel_offset hd ≤ p → StartsPartway t p number hd body
