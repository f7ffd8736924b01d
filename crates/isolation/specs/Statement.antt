-- Demand 3, "Reading a sheet", last paragraph: one claim about two whole readings. f is the first file and g the second, and r and
-- s are their rasters.
use Rattle.std.specs.Prelude.{ℕ, ◌+◌, ◌*◌, ◌≤◌, ◌<◌, ◌≡◌, ◌↔◌, ◌⊎◌, true, false, List, [], length, get_or, take, drop}
use Rattle.units.specs.Over.{zeros}
use Rattle.units.specs.Rules.{first}
use Rattle.numbering.specs.Numbering.{first_past, wanted_number}
use Rattle.layout.specs.Scanline.{Reading, reading, unreached}
use Rattle.layout.specs.Chain.{Raster, sheet_of, start, reached, head_at, body_at, rollover_of, end_of}
use Rattle.layout.specs.Reading.{RasterNumbers, buffer_rules, raster_rejection, raster_reading, rejected_raster, pixels_after, marks_after, count_good}

-- byte i lies inside the body of a scanline, from the first to the last, that the chain reaches
pub record InBody (r : Raster) (i : ℕ) : Type 0 where
  pub k : ℕ
  pub within : k < r.nol
  pub after : start r k + 8 ≤ i
  pub before : i < start r k + 8 + length (body_at r k)

-- g has the length of f, and differs from it only inside such bodies
pub record ChangedInBodies (f g : List ℕ) : Type 0 where
  pub same_length : length g ≡ length f
  pub elsewhere : (i : ℕ) → (InBody (sheet_of f) i → ⊥) → get_or g i 0 ≡ get_or f i 0

-- in buffers of pixels and statuses, for rows of p pixels, scanline k has this reading
pub record LineIs (p k : ℕ) (pixels marks : List ℕ) (x : Reading) : Type 0 where
  pub status : get_or marks k 0 ≡ x.status
  pub row : take p (drop (k * p) pixels) ≡ x.row

-- scanline k has the same status and the same row in two pairs of buffers
pub record SameLine (p k : ℕ) (pixels₁ marks₁ pixels₂ marks₂ : List ℕ) : Type 0 where
  pub status : get_or marks₂ k 0 ≡ get_or marks₁ k 0
  pub row : take p (drop (k * p) pixels₂) ≡ take p (drop (k * p) pixels₁)

-- What one reading that is not rejected gives: s is the raster that it reads, a its answer, and the buffers are as it leaves
-- them. The data type, the rows' length and the number of scanlines are those of r, and so is which ones are reached.
pub record OneReading (r s : Raster) (a : RasterNumbers) (pixels marks : List ℕ) : Type 0 where
  -- Every reached scanline has the reading of its own header and body in this file. The number that it must have is settled by k and, from
  -- line 65,536 on, by the number of that line, `rollover_of s`, which counts as part of every later line's header.
  pub own : (k : ℕ) → k < r.nol → reached r k ≡ true → LineIs r.ppl k pixels marks (reading r.data_type r.ppl (wanted_number (rollover_of s) k) (head_at s k) (body_at s k))
  -- one that is not reached has 9 and zeros
  pub rest : (k : ℕ) → k < r.nol → reached r k ≡ false → LineIs r.ppl k pixels marks (unreached r.ppl)
  -- where the status is above 0 the row is all zeros
  pub blank : (k : ℕ) → k < r.nol → (get_or marks k 0 ≡ 0 → ⊥) → take r.ppl (drop (k * r.ppl) pixels) ≡ zeros r.ppl
  -- the end is the one defined; the answer is 0 or 1, and 0 exactly where every scanline has the status 0; and the number of
  -- good ones is that of the zeros among the statuses, as they stand in the buffer
  pub end : a.end ≡ end_of s
  pub is_read : (a.answer ≡ 0) ⊎ (a.answer ≡ 1)
  pub answer : (a.answer ≡ 0) ↔ ((k : ℕ) → k < r.nol → get_or marks k 0 ≡ 0)
  pub good : a.good ≡ count_good (take r.nol marks)

-- what the two readings have in common where neither is rejected
pub record TwoReadings (r s : Raster) (a₁ : RasterNumbers) (pixels₁ marks₁ : List ℕ) (a₂ : RasterNumbers) (pixels₂ marks₂ : List ℕ) : Type 0 where
  pub first : OneReading r r a₁ pixels₁ marks₁
  pub second : OneReading r s a₂ pixels₂ marks₂
  pub same_reached : (k : ℕ) → k ≤ r.nol → reached s k ≡ reached r k
  pub same_start : (k : ℕ) → k ≤ r.nol → start s k ≡ start r k
  pub same_end : a₂.end ≡ a₁.end
  -- the number of line 65,536, where it is reached
  pub same_rollover : first_past < r.nol → reached r first_past ≡ true → rollover_of s ≡ rollover_of r
  -- a scanline whose body has the same bytes in both files has the same status and row in both, and so has one without a body
  pub same_line : (k : ℕ) → k < r.nol → body_at s k ≡ body_at r k → SameLine r.ppl k pixels₁ marks₁ pixels₂ marks₂
  pub no_body : (k : ℕ) → k < r.nol → body_at r k ≡ [] → SameLine r.ppl k pixels₁ marks₁ pixels₂ marks₂

-- the number that the two buffers alone are rejected with, 23 or 24 where one is too short for r, or 0
abbrev pub buffer_rejection : Raster → List ℕ → List ℕ → ℕ
buffer_rejection r pixels marks = first (buffer_rules r.ppl r.nol (length pixels) (length marks))

-- a rejected reading: the number and zeros, and both buffers as they were
pub record RejectedReading (n : ℕ) (pixels marks : List ℕ) (a : RasterNumbers) (pixels' marks' : List ℕ) : Type 0 where
  pub number : a ≡ rejected_raster n
  pub pixels_stay : pixels' ≡ pixels
  pub marks_stay : marks' ≡ marks

-- The claim. The second reading was lent `pixels` and `marks`; pixels₁ and so on are what the buffers hold afterwards.
pub record Isolated (f g pixels marks : List ℕ) (a₁ : RasterNumbers) (pixels₁ marks₁ : List ℕ) (a₂ : RasterNumbers) (pixels₂ marks₂ : List ℕ) : Type 0 where
  -- the second is rejected only where a buffer lent to it is too short: its rejection is that of the two buffers alone
  pub rejection : raster_rejection g (length pixels) (length marks) ≡ buffer_rejection (sheet_of f) pixels marks
  -- so it is not where it is lent as much as the first
  pub as_much : length pixels₁ ≤ length pixels → length marks₁ ≤ length marks → buffer_rejection (sheet_of f) pixels marks ≡ 0
  pub rejected : (buffer_rejection (sheet_of f) pixels marks ≡ 0 → ⊥)
      → RejectedReading (buffer_rejection (sheet_of f) pixels marks) pixels marks a₂ pixels₂ marks₂
  pub otherwise : buffer_rejection (sheet_of f) pixels marks ≡ 0 → TwoReadings (sheet_of f) (sheet_of g) a₁ pixels₁ marks₁ a₂ pixels₂ marks₂

-- Demand 3, of the definitions that the promise of `read_raster` cites. `isolated` proves it.
abbrev pub Demand3 : Type 0
Demand3 =
    (f g pixels₁ marks₁ pixels₂ marks₂ : List ℕ)
    → (sheet_of f).scn ≡ 1
    → raster_rejection f (length pixels₁) (length marks₁) ≡ 0
    → ChangedInBodies f g
    → Isolated f g pixels₂ marks₂
    (raster_reading f pixels₁ marks₁) (pixels_after f pixels₁ marks₁) (marks_after f pixels₁ marks₁)
    (raster_reading g pixels₂ marks₂) (pixels_after g pixels₂ marks₂) (marks_after g pixels₂ marks₂)
