-- What the raster's call reads ends where a number of 32 bits tells, and its rejections are 10 or above. What the call leaves, by how
-- long its answer slice is.
use Rattle.std.specs.Prelude.{ℕ, Result, Ok, Err, IfOk, ◌^◌, ◌≤◌, ◌<◌, ◌≡◌, refl, Bool, true, false, cond, List, [], ◌∷◌, ◌++◌, length, eqb}
use Rattle.std.proofs.Common.{◌∙◌, arith, eqb-true}
use Rattle.std.proofs.Math.Path.{ap}
use Rattle.std.proofs.lemmas.Bool.{eqb-false}
use Rattle.units.specs.Over.{over}
use Rattle.units.proofs.Laws.Rules.{first_from, both_none}
use Rattle.header.specs.Rejections.{rules_to22, rejection_to22}
use Rattle.header.proofs.Laws.Accepted.{accepted}
use Rattle.layout.specs.Chain.{sheet_of, good_count}
use Rattle.layout.specs.Reading.{RasterNumbers, read_numbers, rejected_raster, answer_of}
use Rattle.layout.specs.PixelBytes.{byte_buffer_rules, bytes_rejection, bytes_reading, pixel_bytes_after, byte_marks_after}
use Rattle.layout.proofs.Laws.Chain.{start_within}
use Rattle.refusals.specs.declared.Rejection.{Rejection}
use Rattle.decode_raster.specs.declared.Reading.{Reading}
use Rattle.decode_raster.specs.Answer.{raster_numbers}
use Rattle.answers.specs.Answer.{number_bytes, result_of, answer_after, unless_short}
use Rattle.answers.proofs.Laws.Call.{too_short, rejected, stored, kept_if_short, changed_if_long}
use Rattle.capi.specs.Calls.{raster_size, c_raster}

-- a rejection is 10 or above
pub rejection_from : (f : List ℕ) (pixels marks : ℕ) → (bytes_rejection f pixels marks ≡ 0 → ⊥) → 10 ≤ bytes_rejection f pixels marks
unfolding bytes_rejection
rejection_from f pixels marks = first_from 10 (rules_to22 f ++ byte_buffer_rules (sheet_of f).ppl (sheet_of f).nol pixels marks) tt

-- what is read ends within the file, whose length fits 31 bits
pub end_within : (f : List ℕ) (pixels marks : ℕ) → bytes_rejection f pixels marks ≡ 0 → (read_numbers (sheet_of f)).end < 2 ^ 32
unfolding bytes_rejection rejection_to22
end_within f pixels marks e =
    let a = accepted f (both_none (rules_to22 f) (byte_buffer_rules (sheet_of f).ppl (sheet_of f).nol pixels marks) tt e).0 in
    omega (arith, a.short, start_within (sheet_of f) a.inside (sheet_of f).nol)

one_most : (good n : ℕ) → answer_of good n ≤ 1
one_most good n = go (eqb good n)
  where
    go : (b : Bool) → cond b 0 1 ≤ 1
    go true = omega arith
    go false = omega arith

abbrev read_or : List ℕ → ℕ → RasterNumbers
read_or f n = cond (eqb n 0) (read_numbers (sheet_of f)) (rejected_raster n)

-- the answer of a call that is rejected is 10 or above
answer_from : (f : List ℕ) (pixels marks : ℕ)
    → let n = bytes_rejection f pixels marks in 1 < (read_or f n).answer
    → 10 ≤ (read_or f n).answer
answer_from f pixels marks = go (eqb (bytes_rejection f pixels marks) 0) refl
  where
    go : (b : Bool) → eqb (bytes_rejection f pixels marks) 0 ≡ b
        → 1 < (cond b (read_numbers (sheet_of f)) (rejected_raster (bytes_rejection f pixels marks))).answer
        → 10 ≤ (cond b (read_numbers (sheet_of f)) (rejected_raster (bytes_rejection f pixels marks))).answer
    go true t h = absurd (omega (arith, one_most (good_count (sheet_of f) (sheet_of f).nol) (sheet_of f).nol))
    go false t h = rejection_from f pixels marks (eqb-false (bytes_rejection f pixels marks) 0 t)

end_most : (f : List ℕ) (pixels marks : ℕ) → (read_or f (bytes_rejection f pixels marks)).end < 2 ^ 32
end_most f pixels marks = go (eqb (bytes_rejection f pixels marks) 0) refl
  where
    go : (b : Bool) → eqb (bytes_rejection f pixels marks) 0 ≡ b
        → (cond b (read_numbers (sheet_of f)) (rejected_raster (bytes_rejection f pixels marks))).end < 2 ^ 32
    go true t = end_within f pixels marks (eqb-true (bytes_rejection f pixels marks) 0 t)
    go false t = omega arith

-- so that its end is a number of 32 bits
pub end_fits : (f pixels marks : List ℕ) (read : Result Reading Rejection) → raster_numbers read ≡ bytes_reading f pixels marks
    → IfOk read (λ r. r.end < 2 ^ 32)
unfolding bytes_reading
end_fits f pixels marks (Ok r) e =
    let s : r.end ≡ (read_or f (bytes_rejection f (length pixels) (length marks))).end = ap (λ (x : RasterNumbers). x.end) e in
    omega (arith, end_most f (length pixels) (length marks))
end_fits f pixels marks (Err r) e = tt

-- and of every answer, a rejection's too
pub numbers_end : (f pixels marks : List ℕ) (a : RasterNumbers) → a ≡ bytes_reading f pixels marks → a.end < 2 ^ 32
unfolding bytes_reading
numbers_end f pixels marks a e =
    let s : a.end ≡ (read_or f (bytes_rejection f (length pixels) (length marks))).end = ap (λ (x : RasterNumbers). x.end) e in
    omega (arith, end_most f (length pixels) (length marks))

-- the result, the answer slice, and the two buffers
abbrev pub ReadBytes : List ℕ → List ℕ → List ℕ → List ℕ → ℕ → List ℕ → List ℕ → List ℕ → Type 0
ReadBytes f pixels marks answer r answer' pixels' marks' =
    (r ≡ result_of raster_size (c_raster f pixels marks) answer)
    × ((answer' ≡ answer_after raster_size (c_raster f pixels marks) answer)
    × ((pixels' ≡ unless_short raster_size answer pixels (pixel_bytes_after f pixels marks))
    × (marks' ≡ unless_short raster_size answer marks (byte_marks_after f pixels marks))))

module _ (f pixels marks answer : List ℕ) where
  pub read_short : length answer < raster_size → ReadBytes f pixels marks answer 29 answer pixels marks
  read_short h =
      let t = too_short raster_size (c_raster f pixels marks) answer h in (
        t.0,
        (
          t.1,
          (
            kept_if_short raster_size answer pixels (pixel_bytes_after f pixels marks) h,
            kept_if_short raster_size answer marks (byte_marks_after f pixels marks) h,
          ),
        ),
      )

  module _ (a : RasterNumbers) (pixels' marks' : List ℕ) (numbers : a ≡ bytes_reading f pixels marks)
      (pixels_are : pixels' ≡ pixel_bytes_after f pixels marks) (marks_are : marks' ≡ byte_marks_after f pixels marks)
      (enough : raster_size ≤ length answer) where
    result : a.answer ≡ (bytes_reading f pixels marks).answer
    result = ap (λ (x : RasterNumbers). x.answer) numbers

    rejected_from : 1 < a.answer → 10 ≤ a.answer
    unfolding bytes_reading
    rejected_from h =
        let e : a.answer ≡ (read_or f (bytes_rejection f (length pixels) (length marks))).answer = result in
        omega (arith, answer_from f (length pixels) (length marks) (omega arith))

    pub read_rejected : 1 < a.answer → ReadBytes f pixels marks answer a.answer answer pixels' marks'
    read_rejected h =
        let t = rejected raster_size (c_raster f pixels marks) answer enough result (rejected_from h) in (
          t.0,
          (
            t.1,
            (
              changed_if_long raster_size answer pixels (pixel_bytes_after f pixels marks) enough pixels_are,
              changed_if_long raster_size answer marks (byte_marks_after f pixels marks) enough marks_are,
            ),
          ),
        )

    pub read_done : a.answer ≤ 1 → {answer' : List ℕ} → answer' ≡ over (number_bytes (a.good ∷ (a.end ∷ []))) answer
        → ReadBytes f pixels marks answer a.answer answer' pixels' marks'
    read_done h e =
        let n = ap (λ (x : RasterNumbers). over (number_bytes (x.good ∷ (x.end ∷ []))) answer) numbers in
        let t = stored raster_size (c_raster f pixels marks) answer enough result (omega arith) (e ∙ n) in (
          t.0,
          (
            t.1,
            (
              changed_if_long raster_size answer pixels (pixel_bytes_after f pixels marks) enough pixels_are,
              changed_if_long raster_size answer marks (byte_marks_after f pixels marks) enough marks_are,
            ),
          ),
        )
