-- "Demand 3 holds of the bytes": demand 3 (`isolation/Statement`) of two calls of `ingr_raster`, of the bytes that a program in C holds. f is
-- the first file and g the second, and r and s are their rasters.
use Rattle.std.specs.Prelude.{ℕ, ◌*◌, ◌≤◌, ◌<◌, ◌≡◌, ◌↔◌, ◌⊎◌, true, false, List, [], ◌∷◌, length, get_or, take, drop, ltb}
use Rattle.units.specs.Counts.{word_bytes}
use Rattle.units.specs.LittleEndian.{u32_at}
use Rattle.units.specs.Over.{zeros}
use Rattle.units.specs.Rules.{rule, first}
use Rattle.units.specs.Words.{words_to_bytes}
use Rattle.numbering.specs.Numbering.{first_past, wanted_number}
use Rattle.layout.specs.Scanline.{Reading, reading, unreached}
use Rattle.layout.specs.Chain.{Raster, sheet_of, start, reached, head_at, body_at, rollover_of, end_of}
use Rattle.layout.specs.Reading.{count_good}
use Rattle.layout.specs.PixelBytes.{byte_buffer_rules}
use Rattle.isolation.specs.Statement.{ChangedInBodies}
use Rattle.answers.specs.Answer.{is_rejection}
use Rattle.capi.specs.Calls.{raster_size}
use Rattle.two_c_readings.specs.Call.{Outcome, called}

-- the bytes of row k, for rows of p pixels, and the two numbers of an answer slice
abbrev pub byte_row : ℕ → ℕ → List ℕ → List ℕ
byte_row p k pixels = take (word_bytes p) (drop (k * word_bytes p) pixels)

abbrev pub good_in : List ℕ → ℕ
good_in answer = u32_at answer 0

abbrev pub end_in : List ℕ → ℕ
end_in answer = u32_at answer 4

-- scanline k has this reading: its status, and the bytes of its row, low byte first
pub record ByteLineIs (p k : ℕ) (c : Outcome) (x : Reading) : Type 0 where
  pub status : get_or c.marks k 0 ≡ x.status
  pub row : byte_row p k c.pixels ≡ words_to_bytes x.row

-- scanline k has the same status and the same bytes after both calls
pub record SameByteLine (p k : ℕ) (c₁ c₂ : Outcome) : Type 0 where
  pub status : get_or c₂.marks k 0 ≡ get_or c₁.marks k 0
  pub row : byte_row p k c₂.pixels ≡ byte_row p k c₁.pixels

-- What one call that is not rejected gives; s is the raster that it reads. The data type, the rows' length and the number of
-- scanlines are those of r, and so is which ones are reached.
pub record OneCall (r s : Raster) (c : Outcome) : Type 0 where
  pub own : (k : ℕ) → k < r.nol → reached r k ≡ true → ByteLineIs r.ppl k c (reading r.data_type r.ppl (wanted_number (rollover_of s) k) (head_at s k) (body_at s k))
  pub rest : (k : ℕ) → k < r.nol → reached r k ≡ false → ByteLineIs r.ppl k c (unreached r.ppl)
  pub blank : (k : ℕ) → k < r.nol → (get_or c.marks k 0 ≡ 0 → ⊥) → byte_row r.ppl k c.pixels ≡ zeros (word_bytes r.ppl)
  pub end : end_in c.answer ≡ end_of s
  pub is_read : (c.result ≡ 0) ⊎ (c.result ≡ 1)
  pub result : (c.result ≡ 0) ↔ ((k : ℕ) → k < r.nol → get_or c.marks k 0 ≡ 0)
  pub good : good_in c.answer ≡ count_good (take r.nol c.marks)

-- what the two calls have in common where neither is rejected
pub record TwoCalls (r s : Raster) (c₁ c₂ : Outcome) : Type 0 where
  pub first : OneCall r r c₁
  pub second : OneCall r s c₂
  pub same_reached : (k : ℕ) → k ≤ r.nol → reached s k ≡ reached r k
  pub same_start : (k : ℕ) → k ≤ r.nol → start s k ≡ start r k
  pub same_end : end_in c₂.answer ≡ end_in c₁.answer
  pub same_rollover : first_past < r.nol → reached r first_past ≡ true → rollover_of s ≡ rollover_of r
  pub same_line : (k : ℕ) → k < r.nol → body_at s k ≡ body_at r k → SameByteLine r.ppl k c₁ c₂
  pub no_body : (k : ℕ) → k < r.nol → body_at r k ≡ [] → SameByteLine r.ppl k c₁ c₂

-- the number that the three lent slices alone are rejected with, 29, 23 or 24 where one is too short for r, or 0
abbrev pub slices_rejection : Raster → List ℕ → List ℕ → List ℕ → ℕ
slices_rejection r pixels marks answer =
    first (rule 29 (ltb (length answer) raster_size) ∷ byte_buffer_rules r.ppl r.nol (length pixels) (length marks))

-- a rejected call: the number, and every slice as it was
pub record RejectedCall (n : ℕ) (pixels marks answer : List ℕ) (c : Outcome) : Type 0 where
  pub number : c.result ≡ n
  pub pixels_stay : c.pixels ≡ pixels
  pub marks_stay : c.marks ≡ marks
  pub answer_stays : c.answer ≡ answer

-- The claim. The second call was lent `pixels`, `marks` and `answer`; c₁ and c₂ are what the calls come to.
pub record IsolatedBytes (f g pixels marks answer : List ℕ) (c₁ c₂ : Outcome) : Type 0 where
  -- the second is rejected only where a slice lent to it is too short, so it is not where it is lent as much as the first
  pub as_much : length c₁.pixels ≤ length pixels → length c₁.marks ≤ length marks → length c₁.answer ≤ length answer
      → slices_rejection (sheet_of f) pixels marks answer ≡ 0
  pub rejected : (slices_rejection (sheet_of f) pixels marks answer ≡ 0 → ⊥)
      → RejectedCall (slices_rejection (sheet_of f) pixels marks answer) pixels marks answer c₂
  pub otherwise : slices_rejection (sheet_of f) pixels marks answer ≡ 0 → TwoCalls (sheet_of f) (sheet_of g) c₁ c₂

-- Demand 3, of the definitions that the promise of `ingr_raster` cites. `isolated_bytes` proves it.
abbrev pub Demand3Bytes : Type 0
Demand3Bytes =
    (f g pixels₁ marks₁ answer₁ pixels₂ marks₂ answer₂ : List ℕ)
    → (sheet_of f).scn ≡ 1
    → is_rejection (called f pixels₁ marks₁ answer₁).result ≡ false
    → ChangedInBodies f g
    → IsolatedBytes f g pixels₂ marks₂ answer₂ (called f pixels₁ marks₁ answer₁) (called g pixels₂ marks₂ answer₂)
