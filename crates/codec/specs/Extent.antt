-- What a scanline without a header takes of the bytes that are left: its status, whether it and all after it are lost, and how many bytes
-- it takes, none where it is lost.
use Rattle.std.specs.Prelude.{ℕ, Bool, true, false, Result, Ok, Err}
use Rattle.refusals.specs.declared.Fault.{Fault}
use Rattle.refusals.specs.Faults.{mark_of, status_of}
use Rattle.units.specs.declared.Bytes.{Bytes}
use Rattle.units.specs.Counts.{n_bytes}
use Rattle.codec.specs.declared.Scanline.{Scanline}

pub record Extent : Type 0 where
  pub status : ℕ
  pub lost : Bool
  pub used : Bytes

-- the line takes n bytes, whatever its status: the chain goes on
abbrev pub kept : ℕ → ℕ → Extent
kept s n = record { status = s; lost = false; used = n_bytes n }

-- and is good
abbrev pub taken : ℕ → Extent
taken n = kept 0 n

-- a fault that loses the line and takes nothing
abbrev pub fault : ℕ → Extent
fault s = record { status = s; lost = true; used = n_bytes 0 }

-- what a reader answers: an error where the line is lost
abbrev pub extent_of : Result Scanline Fault → Extent
extent_of (Ok s) = kept (status_of s.body) s.used.0
extent_of (Err f) = fault (mark_of f)
