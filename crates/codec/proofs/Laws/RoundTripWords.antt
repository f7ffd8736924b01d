-- What the types that are written as words share: what a line takes.
use Rattle.std.specs.Prelude.{ℕ, ◌+◌, ◌≡◌, List, ◌∷◌, ◌++◌, length, replicate}
use Rattle.std.proofs.Common.{ap, append_assoc, arith, length-append}
use Rattle.std.proofs.lemmas.List.{replicate-append-replicate}
use Rattle.units.specs.Counts.{word_bytes}
use Rattle.codec.specs.Codec.{taken}
use Rattle.units.proofs.Laws.Stores.{length-bytes}
use Rattle.units.specs.Words.{words_to_bytes}

-- what a line takes: words after others, and all its words
pub both_used : (used : ℕ) (a b : List ℕ)
    → taken (used + word_bytes (length a) + word_bytes (length b)) ≡ taken (used + word_bytes (length (a ++ b)))
both_used used a b = ap taken (omega (arith, length-append a b))

pub all_used : (ws : List ℕ) → taken (0 + word_bytes (length ws)) ≡ taken (length (words_to_bytes ws))
all_used ws = ap taken (omega (arith, length-bytes ws))

-- a run that holds one pixel more
pub one_more : (n v : ℕ) (r : List ℕ) → replicate (n + 1) v ++ r ≡ replicate n v ++ (v ∷ r)
one_more n v r = rw (← replicate-append-replicate n 1 v, append_assoc)
