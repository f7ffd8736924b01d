-- What is painted of a good scanline, in a row of pixels or of their bytes, is the reading's row.
use Rattle.std.specs.Prelude.{ℕ, ◌-◌, ◌≤◌, ◌≡◌, refl, Result, Ok, Err, List, ◌++◌, length, take, drop}
use Rattle.std.proofs.Common.{sym, ◌∙◌, ap, append_assoc, arith, length-drop, length-append}
use Rattle.std.proofs.lemmas.List.{length-replicate}
use Rattle.refusals.specs.declared.Fault.{Fault}
use Rattle.refusals.specs.Faults.{status_of}
use Rattle.refusals.proofs.Laws.Numbers.{marked}
use Rattle.units.specs.Counts.{word_bytes}
use Rattle.units.specs.Over.{over, zeros}
use Rattle.units.specs.Words.{words_to_bytes}
use Rattle.units.proofs.Laws.Over.{over_all, over_fits}
use Rattle.units.proofs.Laws.Stores.{length-bytes, bytes-append, zero-bytes}
use Rattle.codec.specs.Extent.{Extent, extent_of}
use Rattle.codec.specs.Table.{body_pixels}
use Rattle.codec.specs.declared.Scanline.{Scanline}
use Rattle.layout.specs.Scanline.{Reading, Step, step_of, reading_of}
use Rattle.scan_scanline.specs.Answer.{IsScan, body_start, first_column}
use Rattle.scan_scanline.proofs.Laws.Body.{GoodBody, blank-line, good_line}
use Rattle.decode_scanline.specs.Answer.{IsLine}

module _ {t p : ℕ} {rest : List ℕ} {from used column : ℕ} {row : List ℕ} (good : GoodBody t p rest from used column row) where
  abbrev pixels : List ℕ
  pixels = body_pixels t (take (used - from) (drop from rest)) (p - column)

  -- the body's pixels fill the row from their column on
  body_fills : length pixels ≡ p - column
  body_fills =
      let z : length (zeros column) ≡ column = length-replicate column 0 in
      omega (arith, z, length-append (zeros column) pixels, ap length good.row_is, good.full, good.fits)

  pub painted_line : (old : List ℕ) → length old ≡ p → zeros column ++ over pixels (drop column old) ≡ row
  painted_line old same =
      ap (λ (x : List ℕ). zeros column ++ x) (over_all pixels (drop column old) (omega (arith, body_fills, length-drop column old)))
      ∙ sym good.row_is

  -- the bytes of a row are painted as far as it has pixels
  pub painted_bytes : (old : List ℕ) → word_bytes p ≤ length old
      → zeros (word_bytes column) ++ (over (words_to_bytes pixels) (zeros (word_bytes (p - column))) ++ drop (word_bytes p) old)
      ≡ over (words_to_bytes row) old
  painted_bytes old fits =
      let l : length (words_to_bytes row) ≡ word_bytes p = length-bytes row ∙ ap word_bytes good.full in
      let m : length (words_to_bytes pixels) ≡ word_bytes (p - column) = length-bytes pixels ∙ ap word_bytes body_fills in
      let z : length (zeros (word_bytes (p - column))) ≡ word_bytes (p - column) = length-replicate (word_bytes (p - column)) 0 in
      ap (λ (x : List ℕ). zeros (word_bytes column) ++ (x ++ drop (word_bytes p) old))
      (over_all (words_to_bytes pixels) (zeros (word_bytes (p - column))) (omega arith))
      ∙ sym (append_assoc (zeros (word_bytes column)) (words_to_bytes pixels) (drop (word_bytes p) old))
      ∙ ap (λ (x : List ℕ). (x ++ words_to_bytes pixels) ++ drop (word_bytes p) old) (sym (zero-bytes column))
      ∙ ap (λ (x : List ℕ). x ++ drop (word_bytes p) old) (sym (bytes-append (zeros column) pixels) ∙ ap words_to_bytes (sym good.row_is))
      ∙ ap (λ (n : ℕ). words_to_bytes row ++ drop n old) (sym l)
      ∙ sym (over_fits (words_to_bytes row) old (omega arith))

-- a row of bytes is cleared as far as it has pixels
pub cleared_bytes : (n end : ℕ) (old row : List ℕ) → end ≡ word_bytes n → end ≤ length old → row ≡ zeros n
    → zeros end ++ drop end old ≡ over (words_to_bytes row) old
cleared_bytes n end old row e fits z =
    let l : length (zeros (word_bytes n)) ≡ word_bytes n = length-replicate (word_bytes n) 0 in
    rw (z, zero-bytes n, over_fits (zeros (word_bytes n)) old (omega arith), l, e)

pub scan-of : {s : Step} {x : Reading} {r : Extent} {row : List ℕ} → IsLine s x r row → IsScan s x r
scan-of l = record { status = l.status; lost = l.lost; used = l.used }

pub line-of : {s : Step} {x : Reading} {r : Extent} {row : List ℕ} → IsScan s x r → row ≡ x.row → IsLine s x r row
line-of scan e = record { status = scan.status; lost = scan.lost; used = scan.used; row_is = e }

good_is : (body : Result Unit Fault) → status_of body ≡ 0 → body ≡ Ok tt
good_is (Ok tt) z = refl
good_is (Err f) z = absurd (marked f z)

-- by what a scan answers
module _ (scn t p number : ℕ) (rest : List ℕ) (read : Result Scanline Fault) (scan : IsScan (step_of scn t p rest) (reading_of scn t p number rest) (extent_of read)) where
  pub good_read : (line : Scanline) → read ≡ Ok line → line.body ≡ Ok tt → {from column : ℕ} → from ≡ body_start scn → column ≡ first_column scn rest
      → GoodBody t p rest from line.used.0 column (reading_of scn t p number rest).row
  good_read line e good start col = good_line scn t p number rest (rw e at scan) start col (ap status_of good)

  -- where it is refused or lost
  pub blank_read : (line : Scanline) → read ≡ Ok line → (line.body ≡ Ok tt → ⊥) → (reading_of scn t p number rest).row ≡ zeros p
  blank_read line e refused = blank-line scn t p number rest (rw e at scan) (λ z. refused (good_is line.body z))

  pub blank_lost : (f : Fault) → read ≡ Err f → (reading_of scn t p number rest).row ≡ zeros p
  blank_lost f e = blank-line scn t p number rest (rw e at scan) (marked f)
