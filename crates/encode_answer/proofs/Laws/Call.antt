-- Laws of a call that writes a file, whatever rejects it: its number, the written length, and the output.
use Rattle.std.specs.Prelude.{ℕ, ◌≤◌, ◌≡◌, refl, Bool, true, false, cond, List, ◌++◌, length, take, drop, eqb}
use Rattle.std.proofs.Common.{sym, ◌∙◌, ap, arith, eqb-true, eq-eqb, ne_eqb, length-append, length-drop, take_at}
use Rattle.encode_answer.specs.Sizes.{WriteNumbers, answer_by, out_by}
use Rattle.encode_answer.proofs.Laws.Sizes.{answer_number, answer_size}

-- n is the number of the rejection, or 0
module _ (n : ℕ) (file out : List ℕ) where
  -- the answer and the output of a rejected call, and of one that is not
  pub refused : (r : WriteNumbers) → r.number ≡ n → (r.number ≡ 0 → ⊥) → r.size ≡ 0
      → (r ≡ answer_by n (length file)) × (out ≡ out_by n file out)
  refused r e some z =
      let t : eqb n 0 ≡ false = ne_eqb n 0 (λ q. some (e ∙ q)) in
      (rw t (λ k. record { number = e k; size = z k }), rw t)

  pub accepted : (r : WriteNumbers) → r.number ≡ n → r.number ≡ 0 → r.size ≡ length file → (now : List ℕ) → now ≡ file ++ drop (length file) out
      → (r ≡ answer_by n (length file)) × (now ≡ out_by n file out)
  accepted r e none z now p =
      let t : eqb n 0 ≡ true = eq-eqb n 0 (sym e ∙ none) in
      (rw t (λ k. record { number = none k; size = z k }), rw t p)

  -- what is answered
  module _ (r : WriteNumbers) (e : r ≡ answer_by n (length file)) where
    pub number_is : r.number ≡ n
    number_is = ap (λ (x : WriteNumbers). x.number) e ∙ answer_number n (length file)

    pub size_is : r.number ≡ 0 → r.size ≡ length file
    size_is z =
        ap (λ (x : WriteNumbers). x.size) e
        ∙ answer_size n (length file)
        ∙ ap (λ (b : Bool). cond b (length file) 0) (eq-eqb n 0 (sym number_is ∙ z))

  -- what the output begins with
  pub begins : n ≡ 0 → (size : ℕ) (now : List ℕ) → size ≡ length file → now ≡ out_by n file out → take size now ≡ file
  begins ok size now s o = rw (o, eq-eqb n 0 ok) (take_at file (drop (length file) out) size (sym s))

  -- its length stays
  pub length_out : (n ≡ 0 → length file ≤ length out) → length (out_by n file out) ≡ length out
  length_out fits = go (eqb n 0) refl
    where
      go : (b : Bool) → eqb n 0 ≡ b → length (cond b (file ++ drop (length file) out) out) ≡ length out
      go true e = length-append file (drop (length file) out) ∙ omega (arith, length-drop (length file) out, fits (eqb-true n 0 e))
      go false e = refl
