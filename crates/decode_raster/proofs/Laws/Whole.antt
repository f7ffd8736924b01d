-- The whole reading: what a rejected call answers, what room one has that is not, and what it answers.
use Rattle.std.specs.Prelude.{ℕ, ◌*◌, ◌/◌, ◌≤◌, ◌<◌, ◌≡◌, List, ◌++◌, length}
use Rattle.std.proofs.Common.{sym, ◌∙◌, arith}
use Rattle.std.proofs.Math.Path.{ap, subst}
use Rattle.std.proofs.Math.Bool.{true, false}
use Rattle.std.proofs.Math.ListN.{drop}
use Rattle.std.proofs.Math.Dec.{eqb}
use borrow.Author.Tests.{eq-eqb, ne_eqb, lt-ltb, le-ltb, ltb-false}
use Rattle.units.specs.Counts.{word_bytes}
use Rattle.units.specs.Rules.{first}
use Rattle.units.specs.Words.{words_to_bytes}
use Rattle.units.proofs.Laws.Rules.{none_holds, both_none, by_first, first_later}
use Rattle.header.specs.Rejections.{rejection_to22, rules_to22}
use Rattle.header.proofs.Laws.Accepted.{accepted}
use Rattle.layout.specs.declared.RasterLayout.{RasterLayout}
use Rattle.layout.specs.Chain.{Raster, sheet_of, raster_of, rows, good_count}
use Rattle.layout.specs.Reading.{buffer_rules, raster_rejection, answer_of, read_numbers, rejected_raster, raster_reading, pixels_after, marks_after}
use Rattle.layout.specs.PixelBytes.{bytes_rejection, bytes_reading, pixel_bytes_after, byte_marks_after}
use Rattle.layout.proofs.Laws.PixelBytes.{bytes_rejection_lem}
use Rattle.decode_raster.specs.declared.Chain.{Chain}
use Rattle.decode_raster.specs.Answer.{chain_numbers}
use Rattle.decode_raster.specs.Laws.Answer.{as_pixels, as_bytes, rows-bytes, Fits, ChainAt}
use Rattle.decode_raster.proofs.Laws.Lines.{Done}

-- the file's number, or that of the first buffer that is too short
module _ (f : List ℕ) (pixels marks : ℕ) {n : ℕ} (number : n ≡ rejection_to22 f) where
  pub by_file : (n ≡ 0 → ⊥) → n ≡ raster_rejection f pixels marks
  unfolding rejection_to22 raster_rejection
  by_file some = by_first (rules_to22 f) (buffer_rules (sheet_of f).ppl (sheet_of f).nol pixels marks) number some

  module _ (none : n ≡ 0) (l : RasterLayout) (read : raster_of l ≡ sheet_of f) where
    past_file : raster_rejection f pixels marks ≡ first (buffer_rules l.ppl l.nol pixels marks)
    unfolding rejection_to22 raster_rejection
    past_file =
        first_later (rules_to22 f) (buffer_rules (sheet_of f).ppl (sheet_of f).nol pixels marks) tt (sym number ∙ none)
        ∙ ap (λ (r : Raster). first (buffer_rules r.ppl r.nol pixels marks)) (sym read)

    pub by_pixels : pixels < l.nol * l.ppl → 23 ≡ raster_rejection f pixels marks
    by_pixels h = rw past_file (simp (lt-ltb _ _ h))

    pub by_marks : l.nol * l.ppl ≤ pixels → marks < l.nol → 24 ≡ raster_rejection f pixels marks
    by_marks e h = rw past_file (simp (le-ltb _ _ e, lt-ltb _ _ h))

    pub by_none : l.nol * l.ppl ≤ pixels → l.nol ≤ marks → 0 ≡ raster_rejection f pixels marks
    by_none e h = rw past_file (simp (le-ltb _ _ e, le-ltb _ _ h))

-- a call that is not rejected has room
sheet_fits : (f : List ℕ) (pixels marks : ℕ) → raster_rejection f pixels marks ≡ 0 → Fits (sheet_of f) (sheet_of f).ppl pixels marks
unfolding rejection_to22 raster_rejection
sheet_fits f pixels marks e =
    let b = both_none (rules_to22 f) (buffer_rules (sheet_of f).ppl (sheet_of f).nol pixels marks) tt e in
    let n = none_holds (buffer_rules (sheet_of f).ppl (sheet_of f).nol pixels marks) tt b.1 in
    let a = accepted f b.0 in
    record {
      starts = a.inside;
      nol_most = a.limits.nol_most;
      pixels_fit = ltb-false pixels ((sheet_of f).nol * (sheet_of f).ppl) n.0;
      marks_fit = ltb-false marks (sheet_of f).nol n.1.0;
    }

-- The answer where nothing is rejected, by the chain's end.
read_answer : (f : List ℕ) (l : RasterLayout) (read : raster_of l ≡ sheet_of f) (c : Chain) → ChainAt (sheet_of f) (sheet_of f).nol c
    → chain_numbers c l.nol ≡ read_numbers (sheet_of f)
read_answer f l read c chain =
    let x : answer_of c.good l.nol ≡ answer_of (good_count (sheet_of f) (sheet_of f).nol) (sheet_of f).nol =
    ap (λ (r : Raster). answer_of c.good r.nol) read ∙ ap (λ (g : ℕ). answer_of g (sheet_of f).nol) chain.good in
    λ i. record { answer = x i; good = chain.good i; end = chain.at i }

module _ (f pixels marks : List ℕ) {n : ℕ} (number : n ≡ raster_rejection f (length pixels) (length marks)) where
  pub rejected_whole : (n ≡ 0 → ⊥)
      → (rejected_raster n ≡ raster_reading f pixels marks) × ((pixels ≡ pixels_after f pixels marks) × (marks ≡ marks_after f pixels marks))
  unfolding raster_reading pixels_after marks_after
  rejected_whole some =
      let t : eqb (raster_rejection f (length pixels) (length marks)) 0 ≡ false = ne_eqb _ 0 (λ z. some (number ∙ z)) in
      (rw t (ap rejected_raster number), (rw t, rw t))

  module _ (none : n ≡ 0) (l : RasterLayout) (read : raster_of l ≡ sheet_of f) where
    pub has_room : Fits (raster_of l) l.ppl (length pixels) (length marks)
    has_room =
        subst (λ (r : Raster). Fits r r.ppl (length pixels) (length marks)) (sym read)
        (sheet_fits f (length pixels) (length marks) (sym number ∙ none))

    pub read_whole : (c : Chain) (pixels' marks' : List ℕ) → Done (raster_of l) (as_pixels l.ppl) pixels marks pixels' marks' c
        → (chain_numbers c l.nol ≡ raster_reading f pixels marks)
        × ((pixels' ≡ pixels_after f pixels marks) × (marks' ≡ marks_after f pixels marks))
    unfolding raster_reading pixels_after marks_after
    read_whole c pixels' marks' done =
        let t : eqb (raster_rejection f (length pixels) (length marks)) 0 ≡ true = eq-eqb _ 0 (sym number ∙ none) in
        let d = subst (λ (r : Raster). Done r (as_pixels r.ppl) pixels marks pixels' marks' c) read done in
        (rw t (read_answer f l read c d.chain), (rw t d.pixels_is, rw t d.marks_is))

-- Into bytes: as for as many pixels as there is room for.
module _ (f pixels marks : List ℕ) {n : ℕ} (number : n ≡ raster_rejection f (length pixels / 2) (length marks)) where
  by_bytes : n ≡ bytes_rejection f (length pixels) (length marks)
  by_bytes = number ∙ sym (bytes_rejection_lem f (length pixels) (length marks))

  pub rejected_bytes : (n ≡ 0 → ⊥)
      → (rejected_raster n ≡ bytes_reading f pixels marks) × ((pixels ≡ pixel_bytes_after f pixels marks) × (marks ≡ byte_marks_after f pixels marks))
  unfolding bytes_reading pixel_bytes_after byte_marks_after
  rejected_bytes some =
      let t : eqb (bytes_rejection f (length pixels) (length marks)) 0 ≡ false = ne_eqb _ 0 (λ z. some (by_bytes ∙ z)) in
      (rw t (ap rejected_raster by_bytes), (rw t, rw t))

  module _ (none : n ≡ 0) (l : RasterLayout) (read : raster_of l ≡ sheet_of f) where
    pub has_room_bytes : Fits (raster_of l) (word_bytes l.ppl) (length pixels) (length marks)
    has_room_bytes =
        let x = sheet_fits f (length pixels / 2) (length marks) (sym number ∙ none) in
        subst (λ (r : Raster). Fits r (word_bytes r.ppl) (length pixels) (length marks)) (sym read)
        (record {
          starts = x.starts;
          nol_most = x.nol_most;
          pixels_fit = omega (arith, x.pixels_fit, rows-bytes (sheet_of f).nol (sheet_of f).ppl);
          marks_fit = x.marks_fit;
        })

    pub read-whole-bytes : (c : Chain) (pixels' marks' : List ℕ) → Done (raster_of l) (as_bytes l.ppl) pixels marks pixels' marks' c
        → (chain_numbers c l.nol ≡ bytes_reading f pixels marks)
        × ((pixels' ≡ pixel_bytes_after f pixels marks) × (marks' ≡ byte_marks_after f pixels marks))
    unfolding bytes_reading pixel_bytes_after byte_marks_after
    read-whole-bytes c pixels' marks' done =
        let t : eqb (bytes_rejection f (length pixels) (length marks)) 0 ≡ true = eq-eqb _ 0 (sym by_bytes ∙ none) in
        let d = subst (λ (r : Raster). Done r (as_bytes r.ppl) pixels marks pixels' marks' c) read done in
        let e = rows-bytes (sheet_of f).nol (sheet_of f).ppl in (
          rw t (read_answer f l read c d.chain),
          (
            rw t (d.pixels_is ∙ ap (λ (m : ℕ). words_to_bytes (rows (sheet_of f) (sheet_of f).nol) ++ drop m pixels) e),
            rw t d.marks_is,
          ),
        )
