-- What a call comes to for a program in C, before its numbers are stored.
use Rattle.std.specs.Prelude.{ℕ, List}
use Rattle.answers.specs.Answer.{Call}

abbrev pub call_of : ℕ → List ℕ → Call
call_of r ns = record { result = r; numbers = ns }
