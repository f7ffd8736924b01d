-- What is put over the start of a buffer, as far as it goes. What lies behind it stays.
use Rattle.std.specs.Prelude.{ℕ, List, ◌++◌, length, take, drop, replicate}

unfoldable pub over : List ℕ → List ℕ → List ℕ
over new old = take (length old) new ++ drop (length new) old

abbrev pub zeros : ℕ → List ℕ
zeros n = replicate n 0
