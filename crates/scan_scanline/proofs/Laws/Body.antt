-- Where the body of a good scanline lies: its row has the body's pixels.
use Rattle.std.specs.Prelude.{ℕ, ◌+◌, ◌-◌, ◌≤◌, ◌≡◌, refl, Bool, true, false, cond, List, ◌++◌, length, take, drop, eqb}
use Rattle.std.proofs.Common.{sym, ◌∙◌, ap, arith, ne_eqb}
use Rattle.codec.specs.Codec.{row_of}
use Rattle.codec.specs.Table.{body_pixels, body_extent}
use Rattle.codec.proofs.Laws.Lawful.{lawful}
use Rattle.units.specs.Counts.{bytes_of_words}
use Rattle.units.specs.Over.{zeros}
use Rattle.layout.specs.Scanline.{head_of, body_of, following, pixel_offset, row_pixels, reading, headed_reading, open_reading, headed_step, open_step, step_of, reading_of}
use Rattle.layout.proofs.Laws.Line.{NotLost, not-lost, is_not-lost, no_fault, row_by_status, length-row}
use Rattle.codec.specs.Extent.{Extent}
use Rattle.scan_scanline.specs.Answer.{IsScan, body_start, first_column}

-- the scanline takes `used` bytes, its body starts at `from`, and the body's first pixel is in this column
pub record GoodBody (t p : ℕ) (rest : List ℕ) (from used column : ℕ) (row : List ℕ) : Type 0 where
  pub starts : from ≤ used
  pub fits : column ≤ p
  pub full : length row ≡ p
  pub row_is : row ≡ zeros column ++ body_pixels t (take (used - from) (drop from rest)) (p - column)

module _ (scn t p number : ℕ) (rest : List ℕ) where
  pub good_body : (reading_of scn t p number rest).status ≡ 0
      → GoodBody t p rest (body_start scn) (step_of scn t p rest).used.0 (first_column scn rest) (reading_of scn t p number rest).row
  good_body e = go (eqb scn 1) e (length-row scn t p rest number)
    where
      go : (s : Bool) → (cond s (headed_reading t p number rest) (open_reading t p rest)).status ≡ 0
          → length (cond s (headed_reading t p number rest) (open_reading t p rest)).row ≡ p
          → GoodBody t p rest (cond s 8 0) (cond s (headed_step rest) (open_step t p rest)).used.0 (cond s (pixel_offset (head_of rest)) 0)
          (cond s (headed_reading t p number rest) (open_reading t p rest)).row
      go true e full =
          let f = no_fault t p number (head_of rest) (body_of rest) e in
          let n : NotLost rest = not-lost rest f.frame in
          let u : (headed_step rest).used.0 ≡ 4 + (bytes_of_words (following (head_of rest))).0 = rw (is_not-lost rest f.frame) in
          record {
            starts = omega (arith, n.words);
            fits = f.offset;
            full = full;
            row_is =
                row_by_status t p number (head_of rest) (body_of rest) e
                ∙ ap (row_pixels t p (head_of rest))
                (n.body ∙ ap (λ (m : ℕ). take (m - 8) (drop 8 rest)) (sym u));
          }
      go false e full =
          let u : (open_step t p rest).used.0 ≡ (body_extent t rest p).used.0 = rw ((lawful t).good_kept rest p e) in
          let v : (open_step t p rest).used.0 - 0 ≡ (body_extent t rest p).used.0 = omega arith in
          let w : p - 0 ≡ p = omega arith in
          record {
            starts = omega arith;
            fits = omega arith;
            full = full;
            row_is =
                ap (λ (n : ℕ). row_of n p (body_pixels t (take (body_extent t rest p).used.0 rest) p)) e
                ∙ (λ i. body_pixels t (take (sym v i) rest) (sym w i));
          }

  -- where the status is not 0 the row is all zeros
  blank-row : ((reading_of scn t p number rest).status ≡ 0 → ⊥) → (reading_of scn t p number rest).row ≡ zeros p
  blank-row = go (eqb scn 1)
    where
      go : (s : Bool) → ((cond s (headed_reading t p number rest) (open_reading t p rest)).status ≡ 0 → ⊥)
          → (cond s (headed_reading t p number rest) (open_reading t p rest)).row ≡ zeros p
      go true h =
          row_by_status t p number (head_of rest) (body_of rest) refl ∙ (rw (ne_eqb (reading t p number (head_of rest) (body_of rest)).status 0 h))
      go false h = rw (ne_eqb (body_extent t rest p).status 0 h)

  -- by what a scan answers
  module _ {r : Extent} (scan : IsScan (step_of scn t p rest) (reading_of scn t p number rest) r) where
    pub blank-line : (r.status ≡ 0 → ⊥) → (reading_of scn t p number rest).row ≡ zeros p
    blank-line some = blank-row (λ e. some (scan.status ∙ e))

    module _ {from column : ℕ} (start : from ≡ body_start scn) (col : column ≡ first_column scn rest) (none : r.status ≡ 0) where
      pub good_line : GoodBody t p rest from r.used.0 column (reading_of scn t p number rest).row
      good_line = rw (start, col, scan.used) (good_body (sym scan.status ∙ none))
