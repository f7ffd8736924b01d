use Rattle.std.proofs.Common.{ℕ, ◌+◌, ◌-◌, ◌≡◌, sym, ◌∙◌, ap, arith, length, replicate}
use Rattle.std.proofs.lemmas.List.{length-replicate, take-replicate}
use borrow.Rule.Slice.PartMut.{mid_of, mid_len}
use Rattle.slices.proofs.Laws.Painting.{part_stored}
use Rattle.slices.proofs.put_run.Goals as goal

pub returns-clause-row_after : goal.returns-clause-row_after
returns-clause-row_after c =
    let a = c.args in
    let end = a.at + c.min.result in
    let run = replicate a.n a.v in
    let n : length run ≡ a.n = length-replicate a.n a.v in
    let m : length (mid_of a.at (end - a.at) a.row.now) ≡ end - a.at = mid_len a.at end a.row.now (omega arith) in
    part_stored a.row.now run c.fill.new.row a.at end (omega arith) (omega arith) (c.fill.ensures ∙ ap (λ (k : ℕ). replicate k a.v) m ∙ sym (take-replicate (end - a.at) a.n a.v (omega arith)))
