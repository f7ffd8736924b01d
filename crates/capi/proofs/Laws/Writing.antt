-- The length of a file that is written is a number of 32 bits. What a call that writes one leaves, where its answer slice is long enough:
-- rejected, or done.
use Rattle.std.specs.Prelude.{ℕ, ◌^◌, ◌≤◌, ◌<◌, ◌≡◌, refl, List, [], ◌∷◌, length, Result, Ok, Err, IfOk}
use Rattle.std.proofs.Common.{ap, arith, sym, ◌∙◌}
use Rattle.refusals.specs.declared.Rejection.{Rejection}
use Rattle.units.specs.Over.{over}
use Rattle.units.specs.declared.Bytes.{Bytes}
use Rattle.encode_answer.specs.Sizes.{WriteNumbers}
use Rattle.encode_answer.specs.Answer.{write_numbers}
use Rattle.answers.specs.Answer.{number_bytes, result_of, answer_after, unless_short}
use Rattle.answers.proofs.Laws.Call.{Answered, rejected, stored, changed_if_long}
use Rattle.capi.specs.Calls.{write_size, write_call}

pub length_fits : (r : Result Bytes Rejection) {n : WriteNumbers} → write_numbers r ≡ n → (n.number ≡ 0 → n.size ≤ 2147483647) → IfOk r (λ size. size.0 < 2 ^ 32)
length_fits (Ok b) e most =
    let z = ap (λ (x : WriteNumbers). x.number) e in
    let s = ap (λ (x : WriteNumbers). x.size) e in
    let m = most (sym z) in
    omega (arith, m, s)
length_fits (Err r) e most = tt

-- a rejection's number is 10 or above, and a length is a number of 32 bits
pub record Told (w : WriteNumbers) : Type 0 where
  pub number-from : (w.number ≡ 0 → ⊥) → 10 ≤ w.number
  pub size_most : w.number ≡ 0 → w.size ≤ 2147483647

module _ (w : WriteNumbers) (answer : List ℕ) (enough : write_size ≤ length answer) (told : Told w) where
  pub write_rejected : (w.number ≡ 0 → ⊥) → Answered write_size (write_call w) answer w.number answer
  write_rejected some = rejected write_size (write_call w) answer enough refl (told.number-from some)

  pub write_done : w.number ≡ 0 → {answer' : List ℕ} → answer' ≡ over (number_bytes (w.size ∷ [])) answer
      → Answered write_size (write_call w) answer 0 answer'
  write_done none e = stored write_size (write_call w) answer enough (sym none) (omega arith) e

-- the result, the answer slice and the output of a call with these numbers
pub wrote : {w n : WriteNumbers} → w ≡ n → (answer out : List ℕ) → write_size ≤ length answer → {after out' : List ℕ} → out' ≡ after
    → {r : ℕ} {answer' : List ℕ} → Answered write_size (write_call w) answer r answer'
    → (r ≡ result_of write_size (write_call n) answer)
    × ((answer' ≡ answer_after write_size (write_call n) answer) × (out' ≡ unless_short write_size answer out after))
wrote numbers answer out enough {after} output x = (
  x.0 ∙ (λ j. result_of write_size (write_call (numbers j)) answer),
  (x.1 ∙ (λ j. answer_after write_size (write_call (numbers j)) answer), changed_if_long write_size answer out after enough output),
)
