-- Laws of line numbers: below line 65,536, from there on, and from one line to the next.
use Rattle.std.specs.Prelude.{ℕ, zero, suc, ◌+◌, ◌%◌, ◌≤◌, ◌<◌, ◌≡◌, refl, Bool, true, false, cond, List, eqb, ltb}
use Rattle.std.proofs.Common.{sym, ◌∙◌, ap, add-zero, add-suc, arith, lt-ltb, le-ltb, ltb-true, ltb-false, eq-eqb, ne_eqb}
use Rattle.numbering.specs.Numbering.{first_past, wanted_number, written_number, stored_number, rollover_met}
use Rattle.numbering.specs.Statement.{AllRollOver, WrittenWanted}

-- a line before 65,536 has its own number
pub number-low : (rollover k : ℕ) → k < 65535 → wanted_number rollover k ≡ k + 1
unfolding wanted_number
number-low rollover k h = rw (lt-ltb k 65535 h)

-- from there on the numbers come again
abbrev rolled_number : Bool → ℕ → ℕ
rolled_number to_one k = cond to_one (k % 65535 + 1) ((k + 1) % 65536)

pub number_past : (rollover k : ℕ) → 65535 ≤ k → wanted_number rollover k ≡ rolled_number (eqb rollover 1) k
unfolding wanted_number
number_past rollover k h = rw (le-ltb k 65535 h)

-- as they would before it
low_same : (to_one : Bool) (k : ℕ) → k < 65535 → k + 1 ≡ rolled_number to_one k
low_same true k h = omega arith
low_same false k h = omega arith

number_is : (rollover k : ℕ) → wanted_number rollover k ≡ rolled_number (eqb rollover 1) k
number_is rollover k = go (ltb k 65535) refl
  where
    go : (b : Bool) → ltb k 65535 ≡ b → wanted_number rollover k ≡ rolled_number (eqb rollover 1) k
    go true e = let h : k < 65535 = ltb-true k 65535 e in number-low rollover k h ∙ low_same (eqb rollover 1) k h
    go false e = number_past rollover k (ltb-false k 65535 e)

next_rolled : (to_one : Bool) (k : ℕ) → rolled_number to_one k < 65535 → rolled_number to_one (suc k) ≡ rolled_number to_one k + 1
next_rolled true k h = omega arith
next_rolled false k h = omega arith

roll_rolled : (to_one : Bool) (k : ℕ) → rolled_number to_one k ≡ 65535 → rolled_number to_one (suc k) ≡ cond to_one 1 0
roll_rolled true k h = omega arith
roll_rolled false k h = omega arith

word_rolled : (to_one : Bool) (k : ℕ) → rolled_number to_one k ≤ 65535
word_rolled true k = omega arith
word_rolled false k = omega arith

pub rolls_over : AllRollOver
rolls_over rollover =
    let to_one = eqb rollover 1 in
    record {
      first = number-low rollover 0 (omega arith);
      next = λ k h. rw (number_is rollover (suc k), number_is rollover k) (next_rolled to_one k (rw (number_is rollover k) at h));
      roll = λ k h. rw (number_is rollover (suc k)) (roll_rolled to_one k (rw (number_is rollover k) at h));
      one_word = λ k. rw (number_is rollover k) (word_rolled to_one k);
    }

-- the word that is written wraps to 0
pub written-wanted : WrittenWanted
unfolding written_number
written-wanted k = number_is (written_number first_past) k

pub written-first : written_number 0 ≡ 1
unfolding written_number
written-first = refl

pub written_next : (k : ℕ) → (written_number k + 1) % 65536 ≡ written_number (k + 1)
unfolding written_number
written_next k = omega arith

-- the number in line 65,536 is met there
pub met_there : (known : ℕ) (rest : List ℕ) → rollover_met known first_past rest ≡ stored_number rest
unfolding rollover_met
met_there known rest = refl

pub met_elsewhere : (known k : ℕ) (rest : List ℕ) → (k ≡ 65535 → ⊥) → rollover_met known k rest ≡ known
unfolding rollover_met
met_elsewhere known k rest h = rw (ne_eqb k 65535 h)

-- as the code has them, where k + 1 may not fit its word
module _ (rollover k : ℕ) (past : 65535 ≤ k) where
  pub number-from-one : rollover ≡ 1 → k % 65535 + 1 ≡ wanted_number rollover k
  number-from-one e = sym (number_past rollover k past ∙ ap (λ (b : Bool). rolled_number b k) (eq-eqb rollover 1 e))

  pub number-from-zero : (rollover ≡ 1 → ⊥) → (k % 65536 + 1) % 65536 ≡ wanted_number rollover k
  number-from-zero e =
      let n : (k % 65536 + 1) % 65536 ≡ (k + 1) % 65536 = omega arith in
      n ∙ sym (number_past rollover k past ∙ ap (λ (b : Bool). rolled_number b k) (ne_eqb rollover 1 e))

-- for the code that numbers lines before that and from there on
pub ruleset line_steps = (number-low, met_elsewhere)

pub ruleset past_steps = (number-from-one, number-from-zero)

-- the number in line 65,536 matters from there on alone
pub same_wanted : (a b k : ℕ) → (65535 ≤ k → a ≡ b) → wanted_number a k ≡ wanted_number b k
same_wanted a b k same = go (ltb k 65535) refl
  where
    go : (t : Bool) → ltb k 65535 ≡ t → wanted_number a k ≡ wanted_number b k
    go true e = let h : k < 65535 = ltb-true k 65535 e in number-low a k h ∙ sym (number-low b k h)
    go false e = ap (λ (n : ℕ). wanted_number n k) (same (ltb-false k 65535 e))

-- no number is above the line's own, and up to 65,535 each line has one more
pub number_most : (rollover k : ℕ) → wanted_number rollover k ≤ k + 1
number_most rollover k = rw (number_is rollover k) (go (eqb rollover 1))
  where
    go : (to_one : Bool) → rolled_number to_one k ≤ k + 1
    go true = omega arith
    go false = omega arith

pub number_later : (rollover k d : ℕ) → wanted_number rollover k + d ≤ 65535 → wanted_number rollover (k + d) ≡ wanted_number rollover k + d
number_later rollover k zero h = rw (add-zero k, add-zero (wanted_number rollover k))
number_later rollover k (suc d) h =
    let e = number_later rollover k d (omega arith) in
    rw (add-suc k d, (rolls_over rollover).next (k + d) (omega arith)) (omega (arith, e))
