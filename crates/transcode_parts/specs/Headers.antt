-- Paper 02, P5: "move a sheet from type 1 to type 9 and back". The headers that the new file has.
use Rattle.std.specs.Prelude.{ℕ, ◌+◌, cond, List, eqb}
use Rattle.std.proofs.lemmas.List.Edits.{sets}
use Rattle.units.specs.Words.{two_bytes}

-- from 1 to 9, and from 9 to 1
abbrev pub other_type : ℕ → ℕ
other_type t = cond (eqb t 1) 9 1

-- "Header blocks are carried over except for DTC"
abbrev pub with_type : List ℕ → ℕ → List ℕ
with_type header to = sets header 4 (two_bytes to)

-- "line headers are kept, with W fitted": identifier, line number and pixel offset stay. The body has so many words.
abbrev pub fitted : List ℕ → ℕ → List ℕ
fitted hd words = sets hd 2 (two_bytes (words + 2))
