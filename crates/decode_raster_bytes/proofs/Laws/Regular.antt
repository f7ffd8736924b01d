-- Scanlines as a loop of their own reads them, while all are regular.
use Rattle.std.proofs.Common.{ℕ, suc, ◌+◌, ◌-◌, ◌*◌, ◌≤◌, ◌<◌, true, List, ◌≡◌, refl, sym, ◌∙◌, ap, arith, length, take, drop, set, drop-drop, length-drop}
use mathlib.Core.Path.{subst⁻¹}
use borrow.Author.Tests.{not-false}
use borrow.Rule.Slice.PartMut.{mid_of, put_mid}
use Rattle.units.specs.Counts.{word_bytes}
use Rattle.units.specs.Over.{over}
use Rattle.units.specs.Words.{words_to_bytes}
use Rattle.units.proofs.Laws.Parts.{rest_is}
use Rattle.numbering.specs.Numbering.{wanted_number, rollover_met}
use Rattle.codec.specs.Extent.{taken}
use Rattle.layout.specs.Chain.{Raster, from, start, reached, number_of}
use Rattle.layout.specs.Scanline.{step_of, reading_of}
use Rattle.layout.proofs.Laws.Line.{length-row}
use Rattle.layout.proofs.Laws.Numbering.{RolloverKnown, known_here, run-number, run_known}
use Rattle.scan_scanline.specs.Answer.{IsScan, body_start}
use Rattle.scan_scanline.specs.Regular.{regular_size, is_regular}
use Rattle.scan_scanline.proofs.Laws.Regular.{Regular, regular}
use Rattle.decode_raster.specs.Laws.Answer.{as_bytes, good_chain, Fits, Stepped}
use Rattle.decode_raster.proofs.Laws.Steps.{step_on, bytes_full}
use Rattle.decode_raster.proofs.Laws.Lines.{LinesAt, lent_length, lines_next}

-- what is read of a regular scanline lies within the bytes
module _ (r : Raster) (at number size : ℕ) (z : size ≡ regular_size r.scn r.ppl)
    (tests : is_regular r.scn number size (take (length r.bytes - at) (from r at)) ≡ true) where
  pub line-at : Regular r.scn r.ppl number (take (length r.bytes - at) (from r at))
  line-at = regular r.scn r.ppl number (take (length r.bytes - at) (from r at)) (rw z at tests)

  pub line_ends : at ≤ length r.bytes → (start : ℕ) → start ≡ body_start r.scn → (at + size ≤ length r.bytes) × (start + r.ppl ≤ size)
  line_ends h start s =
      (omega (arith, line-at.within, ap length (rest_is r.bytes at), length-drop at r.bytes), omega (arith, line-at.body))

-- one turn: scanline k is regular, and its body is stored as its row
module _ (r : Raster) (pixels₀ marks₀ pixels marks : List ℕ) (at k rollover : ℕ)
    (now : LinesAt r (as_bytes r.ppl) pixels₀ marks₀ pixels marks (good_chain at k rollover) k) (more : k < r.nol)
    (room : Fits r (word_bytes r.ppl) (length pixels₀) (length marks₀)) (type : r.data_type ≡ 2) {number : ℕ}
    (numbered : number ≡ number_of r k) (known : RolloverKnown r (suc k) rollover)
    (line : Regular r.scn r.ppl number (take (length r.bytes - at) (from r at))) where
  body_is : (start : ℕ) → start ≡ body_start r.scn
      → take (at + start + r.ppl - (at + start)) (from r (at + start)) ≡ (reading_of r.scn 2 r.ppl number (take (length r.bytes - at) (from r at))).row
  body_is start e =
      let p : at + start + r.ppl - (at + start) ≡ r.ppl = omega arith in
      ap (λ (n : ℕ). take n (from r (at + start))) p
      ∙ ap (take r.ppl) (sym (drop-drop start at r.bytes) ∙ (λ i. drop (e i) (sym (rest_is r.bytes at) i)))
      ∙ sym line.row_is

  stepped : (start : ℕ) → start ≡ body_start r.scn
      → (row old : List ℕ) → length old ≡ word_bytes r.ppl → row ≡ over (words_to_bytes (take (at + start + r.ppl - (at + start)) (from r (at + start)))) old
      → Stepped r (as_bytes r.ppl) k (good_chain (at + regular_size r.scn r.ppl) (k + 1) rollover) row
  stepped start e row old full stored =
      let rest = take (length r.bytes - at) (from r at) in
      step_on r (as_bytes r.ppl) k (good_chain at k rollover) now.chain refl (taken (regular_size r.scn r.ppl)) row
      (good_chain (at + regular_size r.scn r.ppl) (k + 1) rollover) numbered known
      (subst⁻¹ (λ (t : ℕ). IsScan (step_of r.scn t r.ppl rest) (reading_of r.scn t r.ppl number rest) (taken (regular_size r.scn r.ppl))) type line.scan)
      (stored
      ∙ ap (λ (x : List ℕ). over (words_to_bytes x) old) (body_is start e)
      ∙ bytes_full (reading_of r.scn 2 r.ppl number rest).row old r.ppl (length-row r.scn 2 r.ppl rest number) full
      ∙ ap (λ (t : ℕ). words_to_bytes (reading_of r.scn t r.ppl number rest).row) (sym type))
      refl refl refl refl

  pub next : (width start size : ℕ) → width ≡ word_bytes r.ppl → start ≡ body_start r.scn → size ≡ regular_size r.scn r.ppl
      → (row : List ℕ)
      → row ≡ over (words_to_bytes (take (at + start + r.ppl - (at + start)) (from r (at + start)))) (mid_of (k * width) (k * width + width - k * width) pixels)
      → LinesAt r (as_bytes r.ppl) pixels₀ marks₀ (put_mid (k * width) (k * width + width - k * width) pixels row) (set marks k 0) (good_chain (at + size) (k + 1) rollover) (k + 1)
  next width start size w e z row stored =
      rw (w, z)
      (lines_next r (as_bytes r.ppl) pixels₀ marks₀ pixels marks (good_chain at k rollover) k now more room (good_chain (at + regular_size r.scn r.ppl) (k + 1) rollover) row
      (stepped start e row (mid_of (k * width) (k * width + width - k * width) pixels)
      (rw w (lent_length r (as_bytes r.ppl) pixels₀ marks₀ pixels marks (good_chain at k rollover) k now more room)) stored) 0 refl)

-- the same scanlines with what is known of line 65,536 once it is met
pub renumbered_known : (r : Raster) (pixels₀ marks₀ pixels marks : List ℕ) (at k rollover met : ℕ) → RolloverKnown r k met
    → LinesAt r (as_bytes r.ppl) pixels₀ marks₀ pixels marks (good_chain at k rollover) k
    → LinesAt r (as_bytes r.ppl) pixels₀ marks₀ pixels marks (good_chain at k met) k
renumbered_known r pixels₀ marks₀ pixels marks at k rollover met known now =
    record {
      low = now.low;
      chain = record { at = now.chain.at; lost = now.chain.lost; good = now.chain.good; rollover = known };
      pixels_is = now.pixels_is;
      marks_is = now.marks_is;
      pixels-length = now.pixels-length;
      marks_length = now.marks_length;
    }

-- A run starts at scanline k: what is known of line 65,536 is met, and each line's own number is its number less the same count.
module _ (r : Raster) (pixels₀ marks₀ pixels marks : List ℕ) (at k rollover met : ℕ)
    (now : LinesAt r (as_bytes r.ppl) pixels₀ marks₀ pixels marks (good_chain at k rollover) k)
    (meets : met ≡ rollover_met rollover k (take (length r.bytes - at) (from r at))) where
  come : reached r k ≡ true
  come = not-false (reached r k) (sym now.chain.lost)

  there : take (length r.bytes - at) (from r at) ≡ from r (start r k)
  there = rest_is r.bytes at ∙ ap (from r) now.chain.at

  pub renumbered : LinesAt r (as_bytes r.ppl) pixels₀ marks₀ pixels marks (good_chain at k met) k
  renumbered =
      record {
        low = now.low;
        chain =
            record {
              at = now.chain.at;
              lost = now.chain.lost;
              good = now.chain.good;
              rollover = known_here r k rollover now.chain.rollover come there meets;
            };
        pixels_is = now.pixels_is;
        marks_is = now.marks_is;
        pixels-length = now.pixels-length;
        marks_length = now.marks_length;
      }

  pub in_run : {number : ℕ} → number ≡ wanted_number met k → {end : ℕ} → end ≤ k + 1 - number + 65535 → (j : ℕ) → k ≤ j → j < end
      → (j + 1 - (k + 1 - number) ≡ number_of r j) × RolloverKnown r (suc j) met
  in_run wanted ends j low high = (
    run-number r k rollover now.chain.rollover come there meets wanted refl ends j low high,
    run_known r k rollover now.chain.rollover come there meets wanted refl ends j low high,
  )

-- the scanlines read where the loops are left: at the end of the last run, or in one before a scanline that is not regular
pub same_lines : (r : Raster) (pixels₀ marks₀ : List ℕ) {pixels pixels' marks marks' : List ℕ} {at at' rollover rollover' k k' : ℕ} → pixels ≡ pixels'
    → marks ≡ marks' → at ≡ at' → rollover ≡ rollover' → k ≡ k'
    → LinesAt r (as_bytes r.ppl) pixels₀ marks₀ pixels' marks' (good_chain at' k' rollover') k'
    → LinesAt r (as_bytes r.ppl) pixels₀ marks₀ pixels marks (good_chain at k rollover) k
same_lines r pixels₀ marks₀ p m a o k x = rw (p, m, a, o, k) x
