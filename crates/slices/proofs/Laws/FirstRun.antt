-- The laws of a loop that puts runs, as equations: what is to come is put where the row is filled up to, its first run before the rest.
use Rattle.std.specs.Prelude.{ℕ, ◌+◌, ◌≤◌, min, max, ◌≡◌, refl, List, ◌++◌, length, replicate}
use Rattle.std.proofs.Common.{sym}
use Rattle.std.proofs.lemmas.List.Edits.{sets}
use Rattle.units.specs.Counts.{word_bytes}
use Rattle.units.specs.Words.{words_to_bytes}
pub use Rattle.units.proofs.Laws.Over.{sets_over}
use Rattle.slices.proofs.Laws.Painting.{run_next, run_next_blank, blank_from}
pub use Rattle.slices.proofs.Laws.Painting.{blank-first}

pub first_run : (row : List ℕ) (at n v : ℕ) (next : List ℕ)
    → sets row at (replicate n v ++ next) ≡ sets (sets row at (replicate n v)) (min (at + n) (length row)) next
first_run row at n v next = sym (run_next row at n v (replicate n v ++ next) next _ refl refl refl refl)

-- where at least eight pixels are stored for each run
pub first_run_bytes : (row : List ℕ) (at n v : ℕ) (next : List ℕ) → at ≤ length row
    → sets (blank_from at row) at (words_to_bytes (replicate n v ++ next))
    ≡ (let end = min (at + word_bytes n) (length row) in
    sets (blank_from end (sets row at (words_to_bytes (replicate (max n 8) v)))) end (words_to_bytes next))
first_run_bytes row at n v next h = sym (run_next_blank row at n v (replicate n v ++ next) next _ refl h refl refl refl)

-- for loops: a row to begin with, and runs put into it
pub ruleset puts = (sets_over, first_run)

pub ruleset puts_bytes = (blank-first, first_run_bytes)
