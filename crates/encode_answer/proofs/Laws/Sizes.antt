-- The number and the length of an answer.
use Rattle.std.specs.Prelude.{ℕ, ◌≡◌, refl, Bool, true, false, cond, eqb}
use Rattle.std.proofs.Common.{sym, eqb-true}
use Rattle.encode_answer.specs.Sizes.{WriteNumbers, answer_by}

module _ (n size : ℕ) where
  pub answer_number : (answer_by n size).number ≡ n
  answer_number = go (eqb n 0) refl
    where
      go : (b : Bool) → eqb n 0 ≡ b
          → (let answer : WriteNumbers = cond b (record { number = 0; size = size }) (record { number = n; size = 0 }) in answer.number ≡ n)
      go true e = sym (eqb-true n 0 e)
      go false e = refl

  pub answer_size : (answer_by n size).size ≡ cond (eqb n 0) size 0
  answer_size = go (eqb n 0)
    where
      go : (b : Bool)
          → (let answer : WriteNumbers = cond b (record { number = 0; size = size }) (record { number = n; size = 0 }) in answer.size ≡ cond b size 0)
      go true = refl
      go false = refl
