-- What a call that writes a file answers, as the paper's numbers.
use Rattle.std.specs.Prelude.{Result, Ok, Err}
use Rattle.refusals.specs.declared.Rejection.{Rejection}
use Rattle.refusals.specs.Rejections.{number_of}
use Rattle.units.specs.declared.Bytes.{Bytes}
use Rattle.encode_answer.specs.Sizes.{WriteNumbers}

abbrev pub write_numbers : Result Bytes Rejection → WriteNumbers
write_numbers (Ok size) = record { number = 0; size = size.0 }
write_numbers (Err rejection) = record { number = number_of rejection; size = 0 }
