-- The numbers of rejections, as the papers have them.
use Rattle.std.specs.Prelude.{ℕ, Result, Ok, Err}
use Rattle.refusals.specs.declared.Rejection.{Rejection}
use Rattle.refusals.specs.declared.Rejection.TheVariants.{TooLong, TooShort, Mark, HeaderLength, HeaderPastEnd, Version, DataType, Orientation, ScanlineHeaders, PixelsPerLine, Lines, ColorTable, SharedSlot, PixelRoom, MarkRoom, NoColor, PixelTooHigh, BodyTooLong, OutputRoom, AnswerRoom, Unmoved, UprightRoom, RefusedLine, PartwayLine}

abbrev pub number_of : Rejection → ℕ
number_of TooLong = 10
number_of TooShort = 11
number_of Mark = 12
number_of HeaderLength = 13
number_of HeaderPastEnd = 14
number_of Version = 15
number_of DataType = 16
number_of Orientation = 17
number_of ScanlineHeaders = 18
number_of PixelsPerLine = 19
number_of Lines = 20
number_of ColorTable = 21
number_of SharedSlot = 22
number_of PixelRoom = 23
number_of MarkRoom = 24
number_of NoColor = 25
number_of PixelTooHigh = 26
number_of BodyTooLong = 27
number_of OutputRoom = 28
number_of AnswerRoom = 29
number_of Unmoved = 30
number_of UprightRoom = 31
number_of RefusedLine = 41
number_of PartwayLine = 42

-- the number that a call is rejected with, 0 where it is not
abbrev pub rejected_by : {T : Type 0} → Result T Rejection → ℕ
rejected_by (Ok _) = 0
rejected_by (Err r) = number_of r
