-- The loop over scanlines: what holds before scanline k, at its start, from turn to turn and at its end, however rows are stored.
use Prim.Native.Nat.{ℕ, ◌*◌, ◌≤◌}
use Rattle.std.specs.Prelude.{◌≡◌}
use mathlib.Core.List.{List, ◌++◌}
use Rattle.std.proofs.Math.ListN.{length, drop}
use Rattle.layout.specs.Chain.{Raster, rows, statuses}
use Rattle.decode_raster.specs.declared.Chain.{Chain}
use Rattle.decode_raster.specs.Laws.Answer.{Storing, ChainAt}

pub record LinesAt (r : Raster) (s : Storing r.ppl) (pixels₀ marks₀ pixels marks : List ℕ) (c : Chain) (k : ℕ) : Type 0 where
  pub low : k ≤ r.nol
  pub chain : ChainAt r k c
  pub pixels_is : pixels ≡ s.image (rows r k) ++ drop (k * s.width) pixels₀
  pub marks_is : marks ≡ statuses r k ++ drop k marks₀
  pub pixels-length : length pixels ≡ length pixels₀
  pub marks_length : length marks ≡ length marks₀

-- all are read
pub record Done (r : Raster) (s : Storing r.ppl) (pixels₀ marks₀ pixels marks : List ℕ) (c : Chain) : Type 0 where
  pub chain : ChainAt r r.nol c
  pub pixels_is : pixels ≡ s.image (rows r r.nol) ++ drop (r.nol * s.width) pixels₀
  pub marks_is : marks ≡ statuses r r.nol ++ drop r.nol marks₀
