-- Paper 02, P2: "01's answer number is the result; its other numbers go, in 01's order, into a lent byte slice, four bytes each, low
-- byte first [..]; bytes past them, and all on a refusal, stay."
use Rattle.std.specs.Prelude.{ℕ, Bool, cond, List, [], ◌∷◌, ◌++◌, length, ltb, leb}
use Rattle.units.specs.LittleEndian.{u32_bytes}
use Rattle.units.specs.Over.{over}

-- what a call comes to: the paper's answer number, and its other numbers in the paper's order
pub record Call : Type 0 where
  pub result : ℕ
  pub numbers : List ℕ

-- numbers of 32 bits, four bytes each
unfoldable pub number_bytes : List ℕ → List ℕ
number_bytes [] = []
number_bytes (n ∷ r) = u32_bytes n ++ number_bytes r

-- The numbers of rejections start at 10; 0 and 1 are the answers of calls that are not rejected.
abbrev pub is_rejection : ℕ → Bool
is_rejection n = leb 10 n

-- "29, before all others, an answer slice too short for its numbers": the result of a call whose numbers take `size` bytes
abbrev pub result_of : ℕ → Call → List ℕ → ℕ
result_of size c answer = cond (ltb (length answer) size) 29 c.result

-- the answer slice after the call
abbrev pub answer_after : ℕ → Call → List ℕ → List ℕ
answer_after size c answer = cond (is_rejection (result_of size c answer)) answer (over (number_bytes c.numbers) answer)

-- another buffer after the call: as it was where the answer slice is too short, else as the call leaves it
abbrev pub unless_short : ℕ → List ℕ → List ℕ → List ℕ → List ℕ
unless_short size answer old new = cond (ltb (length answer) size) old new
