use Rattle.std.proofs.Common.{◌≡◌, ◌||◌, drop}
use Rattle.encode_raster.specs.Writing.{any_above}
use Rattle.encode_raster.proofs.given.any_above.Given as goal

abbrev pub invariant-loop-pixel : goal.invariant-loop-pixel
invariant-loop-pixel l = (l.found || any_above l.m (drop l.pixel-index l.pixels)) ≡ any_above l.m l.pixels
