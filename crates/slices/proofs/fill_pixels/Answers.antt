use Rattle.std.proofs.Common.{ℕ, ◌≡◌, sym, ◌∙◌, ap, List, arith, length, replicate}
use Rattle.std.proofs.lemmas.List.{length-replicate, take-replicate}
use Rattle.units.specs.Counts.{word_bytes}
use Rattle.units.specs.Over.{over, zeros}
use Rattle.units.specs.Words.{words_to_bytes}
use Rattle.units.proofs.Laws.Over.{over_full}
use Rattle.units.proofs.Laws.Stores.{zero-bytes}
use Rattle.slices.proofs.fill_pixels.Goals as goal

-- a row of zeros is filled with pixels 0
cleared : (row : List ℕ) → zeros (length row) ≡ over (words_to_bytes (replicate (length row) 0)) row
cleared row =
    let n = length row in
    let l : length (zeros (word_bytes n)) ≡ word_bytes n = length-replicate (word_bytes n) 0 in
    rw (zero-bytes n, over_full (zeros (word_bytes n)) row (omega arith)) (sym (take-replicate n (word_bytes n) 0 (omega arith)))

pub returns-then-v-eq0 : goal.returns-then-v-eq0
returns-then-v-eq0 c =
    let a = c.args in
    c.clear.ensures
    ∙ cleared a.row.now
    ∙ ap (λ (v : ℕ). over (words_to_bytes (replicate (length a.row.now) v)) a.row.now) (sym c.if-v-eq0.true)
