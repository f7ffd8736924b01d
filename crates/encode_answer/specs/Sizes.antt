-- "Writing a sheet", "Order", 27, 10 and 28: the rejections by the sizes of a file that is to be written, and what a call that writes it
-- answers and leaves.
use Rattle.std.specs.Prelude.{ℕ, Bool, cond, ◌&&◌, List, [], ◌∷◌, ◌++◌, length, drop, eqb, ltb}
use Rattle.units.specs.declared.Words.{Words}
use Rattle.units.specs.Counts.{n_words}
use Rattle.units.specs.Rules.{Rule, rule}

-- the most words of a body that a scanline header can count, with the two behind its own count
abbrev pub most_words : Words
most_words = n_words 65533

-- For a file of `size` bytes and an output of `room`: `long` says that some body has more words.
abbrev pub size_rules : ℕ → Bool → ℕ → ℕ → List Rule
size_rules scn long size room =
    rule 27 (eqb scn 1 && long) ∷
    rule 10 (ltb 2147483647 size) ∷
    rule 28 (ltb room size) ∷
    []

-- the number of the rejection or 0, and the written length
pub record WriteNumbers : Type 0 where
  pub number : ℕ
  pub size : ℕ

-- by the rejection, for a file of `size` bytes
abbrev pub answer_by : ℕ → ℕ → WriteNumbers
answer_by rejection size =
    cond (eqb rejection 0) (record { number = 0; size = size }) (record { number = rejection; size = 0 })

-- the output then: the file over its start, and behind it what was there; or as it was
abbrev pub out_by : ℕ → List ℕ → List ℕ → List ℕ
out_by rejection file out = cond (eqb rejection 0) (file ++ drop (length file) out) out
