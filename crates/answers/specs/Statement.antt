-- Numbers stored in a buffer of bytes, one by one: what a program that reads them there finds.
use Rattle.std.specs.Prelude.{ℕ, ◌+◌, ◌*◌, ◌^◌, ◌≤◌, ◌<◌, ◌≡◌, List, length, get_or}
use Rattle.units.specs.LittleEndian.{byte_at, u32_at}
use Rattle.units.specs.Over.{over}
use Rattle.answers.specs.Answer.{number_bytes}

-- Each takes four bytes. Number i, of 32 bits, is read at byte 4i where the buffer has its bytes; those past the last are as they were.
pub record Stored (ns answer : List ℕ) : Type 0 where
  pub size : length (number_bytes ns) ≡ 4 * length ns
  pub number : (i : ℕ) → i < length ns → get_or ns i 0 < 2 ^ 32 → 4 * i + 4 ≤ length answer → u32_at (over (number_bytes ns) answer) (4 * i) ≡ get_or ns i 0
  pub past : (j : ℕ) → 4 * length ns ≤ j → byte_at (over (number_bytes ns) answer) j ≡ byte_at answer j

-- of all numbers and buffers. `numbers-stored` proves it.
abbrev pub NumbersStored : Type 0
NumbersStored = (ns answer : List ℕ) → Stored ns answer
