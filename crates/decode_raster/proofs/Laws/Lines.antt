-- The loop over scanlines: what holds before scanline k, at its start, from turn to turn and at its end, however rows are stored.
use Prim.Native.Nat.{ℕ, zero, suc, ◌+◌, ◌-◌, ◌*◌, ◌≤◌, ◌<◌, zero-le}
use Rattle.std.specs.Prelude.{◌≡◌, refl, true, false, not}
use Rattle.std.proofs.Math.Path.{sym, ap, subst⁻¹}
use Rattle.std.proofs.Common.{◌∙◌, add-zero, add-suc, add-mul, arith, length-append}
use mathlib.Core.List.{List, [], ◌∷◌, ◌++◌, append_assoc, append-nil}
use Rattle.std.proofs.Math.Nat.{zero-mul, suc-mul}
use Rattle.std.proofs.Math.Numerals.{add-one}
use Rattle.std.proofs.Math.ListN.{length, drop, set, replicate, length-set}
use Rattle.std.proofs.lemmas.List.{length-replicate, replicate-append-replicate}
use Rattle.std.proofs.lemmas.Bool.{not-true}
use borrow.Rule.Slice.PartMut.{mid_of, put_mid, mid_len, same_len_mid}
use Rattle.refusals.specs.Faults.{status_of}
use Rattle.units.proofs.Laws.Parts.{row_within, replace_part, store_next}
use Rattle.units.specs.Over.{zeros}
use Rattle.layout.specs.Scanline.{Reading}
use Rattle.layout.specs.Chain.{Raster, start, reached, reading_at, rows, statuses, one_if_good, good_count}
use Rattle.layout.proofs.Laws.Chain.{reading_unreached, unreached-start, unreached-suc, length-reading, length-statuses, good_suc}
use Rattle.layout.proofs.Laws.Numbering.{known_first, known_lost}
use Rattle.decode_raster.specs.declared.Chain.{Chain}
use Rattle.decode_raster.specs.Laws.Answer.{Storing, good_chain, Fits, ChainAt, Stepped}
pub use Rattle.decode_raster.specs.Laws.Lines.{LinesAt, Done}

-- before the first
pub lines_first : (r : Raster) (s : Storing r.ppl) (pixels marks : List ℕ)
    → LinesAt r s pixels marks pixels marks (good_chain r.data_start 0 0) 0
unfolding start reached good_count rows statuses
lines_first r s pixels marks =
    record {
      low = zero-le;
      chain = record { at = refl; lost = refl; good = refl; rollover = known_first r 0 };
      pixels_is = rw (s.none, zero-mul s.width);
      marks_is = refl;
      pixels-length = refl;
      marks_length = refl;
    }

-- the places that k rows take
rows-width : (r : Raster) (s : Storing r.ppl) (k : ℕ) → length (s.image (rows r k)) ≡ k * s.width
unfolding rows
rows-width r s zero = rw (s.none, zero-mul s.width)
rows-width r s (suc k) =
    let row : length (s.image (reading_at r k).row) ≡ s.width = s.row_width (reading_at r k).row (length-reading r k) in
    rw (s.more (rows r k) (reading_at r k).row, length-append (s.image (rows r k)) (s.image (reading_at r k).row))
    (omega (arith, rows-width r s k, suc-mul k s.width))

module _ (r : Raster) (s : Storing r.ppl) (pixels₀ marks₀ pixels marks : List ℕ) (c : Chain) (k : ℕ) (now : LinesAt r s pixels₀ marks₀ pixels marks c k)
    (more : k < r.nol) (room : Fits r s.width (length pixels₀) (length marks₀)) where
  pub row_fits : k * s.width + s.width ≤ length pixels
  row_fits = omega (arith, row_within k r.nol s.width (length pixels₀) more room.pixels_fit, now.pixels-length)

  -- the part that is lent for row k has the row's length
  pub lent_length : length (mid_of (k * s.width) (k * s.width + s.width - k * s.width) pixels) ≡ s.width
  lent_length = omega (arith, mid_len (k * s.width) (k * s.width + s.width) pixels row_fits)

  -- one scanline more
  pub lines_next : (d : Chain) (row : List ℕ) → Stepped r s k d row → (mark : ℕ) → mark ≡ status_of d.status
      → LinesAt r s pixels₀ marks₀ (put_mid (k * s.width) (k * s.width + s.width - k * s.width) pixels row) (set marks k mark) d (k + 1)
  unfolding rows statuses
  lines_next d row x mark marked =
      let w = s.width in
      let full : length row ≡ w = ap length x.row_is ∙ s.row_width (reading_at r k).row (length-reading r k) in
      let e : k * w + w ≡ k * w + length row = ap (λ (n : ℕ). k * w + n) (sym full) in
      let end : suc k * w ≡ k * w + w = suc-mul k w in
      let g : k * w + w ≤ length pixels₀ = row_within k r.nol w (length pixels₀) more room.pixels_fit in
      let m : k < length marks₀ = omega (arith, room.marks_fit) in
      subst⁻¹
      (λ (i : ℕ). LinesAt r s pixels₀ marks₀ (put_mid (k * w) (k * w + w - k * w) pixels row) (set marks k mark) d i)
      (add-one k)
      (record {
        low = more;
        chain = ap_chain x.chain;
        pixels_is =
            ap (λ (y : List ℕ). put_mid (k * w) (k * w + w - k * w) y row) now.pixels_is
            ∙ replace_part (s.image (rows r k)) row pixels₀ (k * w) (k * w + w) (rows-width r s k) e g
            ∙ ap (λ (y : List ℕ). (s.image (rows r k) ++ y) ++ drop (k * w + w) pixels₀) x.row_is
            ∙ ap (λ (y : List ℕ). y ++ drop (k * w + w) pixels₀) (sym (s.more (rows r k) (reading_at r k).row))
            ∙ ap (λ (n : ℕ). s.image (rows r k ++ (reading_at r k).row) ++ drop n pixels₀) (sym end);
        marks_is =
            ap (λ (y : List ℕ). set y k mark) now.marks_is
            ∙ store_next (statuses r k) marks₀ k mark (length-statuses r k) m
            ∙ ap (λ (v : ℕ). (statuses r k ++ (v ∷ [])) ++ drop (suc k) marks₀) (marked ∙ x.status);
        pixels-length = same_len_mid (k * w) (k * w + w - k * w) pixels row (full ∙ sym lent_length) ∙ now.pixels-length;
        marks_length = length-set marks k mark ∙ now.marks_length;
      })
    where
      ap_chain : ChainAt r (k + 1) d → ChainAt r (suc k) d
      ap_chain y = rw add-one at y

pub lines_done : (r : Raster) (s : Storing r.ppl) (pixels₀ marks₀ pixels marks : List ℕ) (c : Chain) (k : ℕ)
    → LinesAt r s pixels₀ marks₀ pixels marks c k
    → k ≡ r.nol
    → Done r s pixels₀ marks₀ pixels marks c
lines_done r s pixels₀ marks₀ pixels marks c k l e =
    let d : LinesAt r s pixels₀ marks₀ pixels marks c r.nol = rw e at l in
    record { chain = d.chain; pixels_is = d.pixels_is; marks_is = d.marks_is }

-- The scanlines after a lost one, all at once: their rows are zeros, their statuses 9.
module _ (r : Raster) (k : ℕ) (u : reached r k ≡ false) where
  rest-reached : (m : ℕ) → reached r (k + m) ≡ false
  rest-reached zero = rw (add-zero k) u
  rest-reached (suc m) = rw (add-suc k m) (unreached-suc r (k + m) (rest-reached m))

  rest-start : (m : ℕ) → start r (k + m) ≡ start r k
  rest-start zero = rw (add-zero k)
  rest-start (suc m) = rw (add-suc k m) (unreached-start r (k + m) (rest-reached m) ∙ rest-start m)

  rest_good : (m : ℕ) → good_count r (k + m) ≡ good_count r k
  rest_good zero = rw (add-zero k)
  rest_good (suc m) =
      rw (add-suc k m)
      (good_suc r (k + m)
      ∙ ap (λ (x : Reading). good_count r (k + m) + one_if_good x.status) (reading_unreached r (k + m) (rest-reached m))
      ∙ add-zero (good_count r (k + m))
      ∙ rest_good m)

  rest-rows : (m : ℕ) → rows r (k + m) ≡ rows r k ++ zeros (m * r.ppl)
  unfolding rows
  rest-rows zero = rw (add-zero k, zero-mul r.ppl) (sym (append-nil (rows r k)))
  rest-rows (suc m) =
      rw (add-suc k m, reading_unreached r (k + m) (rest-reached m), rest-rows m, suc-mul m r.ppl)
      (append_assoc (rows r k) (zeros (m * r.ppl)) (zeros r.ppl)
      ∙ ap (λ (l : List ℕ). rows r k ++ l) (replicate-append-replicate (m * r.ppl) r.ppl 0))

  rest-statuses : (m : ℕ) → statuses r (k + m) ≡ statuses r k ++ replicate m 9
  unfolding statuses
  rest-statuses zero = rw (add-zero k) (sym (append-nil (statuses r k)))
  rest-statuses (suc m) =
      rw (add-suc k m, reading_unreached r (k + m) (rest-reached m), rest-statuses m)
      (append_assoc (statuses r k) (replicate m 9) (9 ∷ [])
      ∙ ap (λ (l : List ℕ). statuses r k ++ l) (replicate-append-replicate m 1 9 ∙ ap (λ (n : ℕ). replicate n 9) (add-one m)))

module _ (r : Raster) (s : Storing r.ppl) (pixels₀ marks₀ pixels marks : List ℕ) (c : Chain) (k : ℕ) (now : LinesAt r s pixels₀ marks₀ pixels marks c k)
    (more : k < r.nol) (room : Fits r s.width (length pixels₀) (length marks₀)) where
  all_lost : c.lost ≡ true
      → Done r s pixels₀ marks₀ (put_mid (k * s.width) (r.nol * s.width - k * s.width) pixels (zeros (r.nol * s.width - k * s.width)))
      (put_mid k (r.nol - k) marks (replicate (r.nol - k) 9)) c
  all_lost lost =
      let w = s.width in
      let n = r.nol in
      let m = n - k in
      let all : k + m ≡ n = omega arith in
      let wide : n * w ≡ k * w + m * w = ap (λ (i : ℕ). i * w) (sym all) ∙ add-mul k m w in
      let q : n * w - k * w ≡ m * w = omega arith in
      let u : reached r k ≡ false = not-true (reached r k) (sym now.chain.lost ∙ lost) in
      let z : length (zeros (m * w)) ≡ m * w = length-replicate (m * w) 0 in
      let nines : length (replicate {A = ℕ} m 9) ≡ m = length-replicate m 9 in
      record {
        chain =
            record {
              at = now.chain.at ∙ sym (rest-start r k u m) ∙ ap (start r) all;
              lost = lost ∙ sym (ap not (ap (reached r) (sym all) ∙ rest-reached r k u m));
              good = now.chain.good ∙ sym (rest_good r k u m) ∙ ap (good_count r) all;
              rollover = known_lost r n c.rollover (ap (reached r) (sym all) ∙ rest-reached r k u m);
            };
        pixels_is =
            ap (λ (y : List ℕ). put_mid (k * w) (n * w - k * w) y (zeros (n * w - k * w))) now.pixels_is
            ∙ ap (λ (i : ℕ). put_mid (k * w) (n * w - k * w) (s.image (rows r k) ++ drop (k * w) pixels₀) (zeros i)) q
            ∙ replace_part (s.image (rows r k)) (zeros (m * w)) pixels₀ (k * w) (n * w) (rows-width r s k) (omega arith) room.pixels_fit
            ∙ ap (λ (y : List ℕ). y ++ drop (n * w) pixels₀)
            (ap (λ (y : List ℕ). s.image (rows r k) ++ y) (sym (s.blank m))
            ∙ sym (s.more (rows r k) (zeros (m * r.ppl)))
            ∙ ap s.image (sym (rest-rows r k u m) ∙ ap (rows r) all));
        marks_is =
            ap (λ (y : List ℕ). put_mid k m y (replicate m 9)) now.marks_is
            ∙ replace_part (statuses r k) (replicate m 9) marks₀ k n (length-statuses r k) (omega arith) room.marks_fit
            ∙ ap (λ (y : List ℕ). y ++ drop n marks₀) (sym (rest-statuses r k u m) ∙ ap (statuses r) all);
      }

  -- as they are filled, in places of some width
  pub lines_lost : c.lost ≡ true → (width : ℕ) → width ≡ s.width
      → (blank nines : List ℕ) → blank ≡ zeros (length (mid_of (k * width) (r.nol * width - k * width) pixels))
      → nines ≡ replicate (length (mid_of k (r.nol - k) marks)) 9
      → Done r s pixels₀ marks₀ (put_mid (k * width) (r.nol * width - k * width) pixels blank) (put_mid k (r.nol - k) marks nines) c
  lines_lost lost width w blank nines b n =
      let f : r.nol * s.width ≤ length pixels = omega (arith, room.pixels_fit, now.pixels-length) in
      let g : r.nol ≤ length marks = omega (arith, room.marks_fit, now.marks_length) in
      rw (b, n, w, mid_len (k * s.width) (r.nol * s.width) pixels f, mid_len k r.nol marks g) (all_lost lost)
