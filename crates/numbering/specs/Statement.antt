-- "it rolls over after 65,535", said from one line to the next, without a division.
use Rattle.std.specs.Prelude.{ℕ, zero, suc, ◌+◌, ◌≤◌, ◌<◌, ◌≡◌, cond, eqb}
use Rattle.numbering.specs.Numbering.{first_past, wanted_number, written_number}

-- line 1 has the number 1, each later line one more, and the one after 65,535 what the roll goes to
pub record RollsOver (rollover : ℕ) : Type 0 where
  pub first : wanted_number rollover zero ≡ 1
  pub next : (k : ℕ) → wanted_number rollover k < 65535 → wanted_number rollover (suc k) ≡ wanted_number rollover k + 1
  pub roll : (k : ℕ) → wanted_number rollover k ≡ 65535 → wanted_number rollover (suc k) ≡ cond (eqb rollover 1) 1 0
  pub one_word : (k : ℕ) → wanted_number rollover k ≤ 65535

-- `rolls_over` proves it.
abbrev pub AllRollOver : Type 0
AllRollOver = (rollover : ℕ) → RollsOver rollover

-- The numbers that are written are those that a reader wants of them. `written-wanted` proves it.
abbrev pub WrittenWanted : Type 0
WrittenWanted = (k : ℕ) → wanted_number (written_number first_past) k ≡ written_number k
