-- The scanlines of a raster that is moved, one at a time: where each is, what it reads as, and how long the new ones are.
use Rattle.std.specs.Prelude.{ℕ, zero, suc, ◌+◌, ◌-◌, ◌≤◌, ◌<◌, ◌≡◌, refl, Bool, true, false, cond, ◌||◌, List, [], ◌++◌, length, take, drop, eqb}
use Rattle.std.proofs.Common.{sym, ◌∙◌, ap, inl, inr, arith, eqb-true, length-append, length-drop, length-take-le}
use Rattle.std.proofs.lemmas.Bool.{false≢true}
use Rattle.std.proofs.Math.Seq.{length-sets}
use Rattle.units.specs.Words.{word_count, two_bytes}
use Rattle.units.proofs.Laws.Numbers.{below_next}
use Rattle.units.proofs.Laws.Parts.{rest_is}
use Rattle.codec.specs.Table.{body_bytes}
use Rattle.layout.specs.Scanline.{head_of, body_of, Reading, Step, headed_reading, step_of, reading_of}
use Rattle.layout.specs.Chain.{Raster, from, step_at, start, reached, head_at, number_of, reading_at}
use Rattle.layout.proofs.Laws.Chain.{start_suc, reached-suc, reading_reached}
use Rattle.layout.proofs.Laws.Line.{no_fault, not-lost, used_within, good_not-lost}
use Rattle.scan_scanline.specs.Answer.{body_start}
use Rattle.encode_body.proofs.Laws.Most.{body_most}
use Rattle.transcode_parts.specs.Headers.{other_type}
use Rattle.transcode.specs.File.{fitted_header, new_line, new_line_at, new_lines}
use Rattle.transcode.specs.Transcoding.{any_line}

or_none : (a b : Bool) → (a || b) ≡ false → (a ≡ false) × (b ≡ false)
or_none false b e = (refl, e)
or_none true b e = absurd (false≢true (sym e))

-- no scanline has what none of them has, and one that has it is found
pub line-none : (has : ℕ → Bool) (n k : ℕ) → k < n → any_line has n ≡ false → has k ≡ false
unfolding any_line
line-none has zero k h e = absurd (omega arith)
line-none has (suc n) k h e =
    let o = or_none (any_line has n) (has n) e in
    elim (below_next k n h) [
      | inl l ↦ line-none has n k l o.0
      | inr s ↦ ap has s ∙ o.1
    ]

or_true : (a : Bool) → (a || true) ≡ true
or_true true = refl
or_true false = refl

pub line_some : (has : ℕ → Bool) (n k : ℕ) → k < n → has k ≡ true → any_line has n ≡ true
unfolding any_line
line_some has zero k h e = absurd (omega arith)
line_some has (suc n) k h e =
    elim (below_next k n h) [
      | inl l ↦ ap (λ (b : Bool). b || has n) (line_some has n k l e)
      | inr s ↦ ap (λ (b : Bool). any_line has n || b) (sym (ap has s) ∙ e) ∙ or_true (any_line has n)
    ]

pub line_next : (has : ℕ → Bool) (k : ℕ) → any_line has (suc k) ≡ (any_line has k || has k)
unfolding any_line
line_next has k = refl

pub line_first : (has : ℕ → Bool) → any_line has zero ≡ false
unfolding any_line
line_first has = refl

pub lines_next : (r : Raster) (k : ℕ) → new_lines r (suc k) ≡ new_lines r k ++ new_line_at r k
unfolding new_lines
lines_next r k = refl

pub lines_first : (r : Raster) → new_lines r zero ≡ []
unfolding new_lines
lines_first r = refl

-- a good scanline with a header has all of it
pub head_eight : (t p number : ℕ) (rest : List ℕ) → (headed_reading t p number rest).status ≡ 0 → length (head_of rest) ≡ 8
unfolding head_of
head_eight t p number rest good =
    length-take-le 8 rest (not-lost rest (no_fault t p number (head_of rest) (body_of rest) good).frame).whole

pub length-new : (scn t : ℕ) (hd row : List ℕ) → (scn ≡ 1 → length hd ≡ 8)
    → length (new_line scn t hd row) ≡ body_start scn + length (body_bytes t scn row)
unfolding new_line
length-new scn t hd row eight = go (eqb scn 1) refl
  where
    go : (b : Bool) → eqb scn 1 ≡ b
        → (let body = body_bytes t scn row in length (cond b (fitted_header hd body ++ body) body) ≡ cond b 8 0 + length body)
    go true e =
        let body = body_bytes t scn row in
        omega (arith, length-append (fitted_header hd body) body, length-sets hd 2 (two_bytes ((word_count body).0 + 2)), eight (eqb-true scn 1 e))
    go false e = omega arith

-- where the chain has come to scanline k: what the functions are lent of it, and what it is
module _ (r : Raster) (k at : ℕ) (here : at ≡ start r k) (there : reached r k ≡ true) where
  abbrev pub lent : List ℕ
  lent = take (length r.bytes - at) (drop at r.bytes)

  pub lent_is : lent ≡ from r (start r k)
  lent_is = rest_is r.bytes at ∙ ap (from r) here

  pub head_is : head_at r k ≡ head_of lent
  head_is = ap head_of (sym lent_is)

  pub step_is : step_at r (start r k) ≡ step_of r.scn r.data_type r.ppl lent
  step_is = ap (step_of r.scn r.data_type r.ppl) (sym lent_is)

  pub next_within : at ≤ length r.bytes → at + (step_of r.scn r.data_type r.ppl lent).used.0 ≤ length r.bytes
  next_within h =
      omega (
        arith,
        used_within r.scn r.data_type r.ppl lent,
        ap length (rest_is r.bytes at),
        length-drop at r.bytes,
      )

  -- by the number that it must have
  module _ {number : ℕ} (wanted : number ≡ number_of r k) where
    pub reading_is : reading_at r k ≡ reading_of r.scn r.data_type r.ppl number lent
    reading_is = reading_reached r k there ∙ (λ j. reading_of r.scn r.data_type r.ppl (sym wanted j) (sym lent_is j))

    -- a good one is not lost
    module _ (good : (reading_at r k).status ≡ 0) where
      good_lent : (reading_of r.scn r.data_type r.ppl number lent).status ≡ 0
      good_lent = sym (ap (λ (x : Reading). x.status) reading_is) ∙ good

      pub reached_next : reached r (suc k) ≡ true
      reached_next =
          let l : (step_at r (start r k)).lost ≡ false =
          ap (λ (s : Step). s.lost) step_is ∙ good_not-lost r.scn r.data_type r.ppl lent number good_lent in
          reached-suc r k ∙ rw (there, l)

      pub start_next : {used : ℕ} → used ≡ (step_of r.scn r.data_type r.ppl lent).used.0 → at + used ≡ start r (suc k)
      start_next e = omega (arith, here, e, ap (λ (s : Step). s.used.0) step_is, start_suc r k)

      pub eight_lent : r.scn ≡ 1 → length (head_of lent) ≡ 8
      eight_lent one =
          let g : (headed_reading r.data_type r.ppl number lent).status ≡ 0 = rw one at good_lent in
          head_eight r.data_type r.ppl number lent g

      pub line-lent : new_line_at r k ≡ new_line r.scn (other_type r.data_type) (head_of lent) (reading_of r.scn r.data_type r.ppl number lent).row
      line-lent =
          (λ j. new_line r.scn (other_type r.data_type) (head_is j) (reading_is j).row)

      pub length-line : {body : ℕ}
          → body ≡ length (body_bytes (other_type r.data_type) r.scn (reading_of r.scn r.data_type r.ppl number lent).row)
          → length (new_lines r (suc k)) ≡ length (new_lines r k) + (body_start r.scn + body)
      length-line e =
          omega (
            arith,
            ap length (lines_next r k),
            length-append (new_lines r k) (new_line_at r k),
            ap length line-lent,
            length-new r.scn (other_type r.data_type) (head_of lent) (reading_of r.scn r.data_type r.ppl number lent).row eight_lent,
            e,
          )

-- a new scanline is no longer than this, with the most pixels that a row can have
start_most : (scn : ℕ) → body_start scn ≤ 8
start_most scn = go (eqb scn 1)
  where
    go : (b : Bool) → cond b 8 0 ≤ 8
    go true = omega arith
    go false = omega arith

pub line_most : (scn t : ℕ) (row : List ℕ) → length row ≤ 65535 → body_start scn + length (body_bytes t scn row) ≤ 262152
line_most scn t row h = omega (arith, start_most scn, body_most t scn row)
