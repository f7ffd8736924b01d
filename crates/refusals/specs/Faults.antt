-- The marks of refused scanlines, as the papers have them; and 16, the status of a body whose data type has no codec.
use Rattle.std.specs.Prelude.{ℕ, Result, Ok, Err}
use Rattle.refusals.specs.declared.Fault.{Fault}
use Rattle.refusals.specs.declared.Fault.TheVariants.{PastEnd, Identifier, WordsToFollow, LineNumber, PixelOffset, WordCount, TotalAbove, TotalBelow, Unreached, SpareBit, DataType}

abbrev pub mark_of : Fault → ℕ
mark_of PastEnd = 1
mark_of Identifier = 2
mark_of WordsToFollow = 3
mark_of LineNumber = 4
mark_of PixelOffset = 5
mark_of WordCount = 6
mark_of TotalAbove = 7
mark_of TotalBelow = 8
mark_of Unreached = 9
mark_of SpareBit = 10
mark_of DataType = 16

-- the status of a scanline: 0 where it has no fault
abbrev pub status_of : {T : Type 0} → Result T Fault → ℕ
status_of (Ok _) = 0
status_of (Err f) = mark_of f
