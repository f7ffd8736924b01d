-- A call whose answer slice is long enough, by what it comes to.
use Rattle.std.specs.Prelude.{ℕ, ◌≤◌, ◌≡◌, cond, List, length}
use Rattle.std.proofs.Common.{le-ltb, ap, ◌∙◌}
use Rattle.units.specs.Over.{over}
use Rattle.answers.specs.Answer.{Call, number_bytes, is_rejection}
use Rattle.answers.proofs.Laws.Call.{Answered}
use Rattle.capi.specs.Laws.Outcome.{call_of}

pub finished : (size : ℕ) (answer : List ℕ) → size ≤ length answer → {r : ℕ} {ns : List ℕ} {c : Call} → call_of r ns ≡ c
    → {s : ℕ} → s ≡ r → {now : List ℕ} → now ≡ cond (is_rejection r) answer (over (number_bytes ns) answer) → Answered size c answer s now
finished size answer enough {c = c} e same left =
    let h = le-ltb (length answer) size enough in
    rw h (same ∙ ap (λ (x : Call). x.result) e, left ∙ ap (λ (x : Call). cond (is_rejection x.result) answer (over (number_bytes x.numbers) answer)) e)
