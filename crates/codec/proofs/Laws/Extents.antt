-- A reader's answers as what they say of the chain: an error loses the scanline, and nothing else does.
use Rattle.std.specs.Prelude.{ℕ, ◌≡◌, refl, true, false, Ok, Err}
use Rattle.refusals.specs.declared.Fault.{Fault}
use Rattle.codec.specs.Extent.{extent_of}
use Rattle.codec.specs.declared.Scanline.{Scanline}

pub fault_loses : (f : Fault) → (extent_of (Err f)).lost ≡ true
fault_loses f = refl

pub line_goes_on : (s : Scanline) → (extent_of (Ok s)).lost ≡ false
line_goes_on s = refl
