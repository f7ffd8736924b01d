-- The loop that surveys the scanlines: what holds before scanline k, at its start, from turn to turn, where one is refused, and at its end.
use Rattle.std.specs.Prelude.{ℕ, ◌+◌, ◌*◌, ◌≤◌, ◌<◌, ◌≡◌, refl, Bool, true, false, not, cond, ◌&&◌, ◌||◌, List, length, eqb, ltb}
use Rattle.std.proofs.Common.{zero-le, sym, ◌∙◌, ap, ap₂, subst, add-one, arith, eq-eqb, ne_eqb}
use Rattle.std.proofs.Math.Path.{subst⁻¹}
use Rattle.std.proofs.lemmas.Bool.{false≢true}
use Rattle.refusals.specs.declared.Fault.{Fault}
use Rattle.refusals.specs.Faults.{mark_of}
use Rattle.refusals.proofs.Laws.Numbers.{marked}
use Rattle.units.specs.Counts.{n_bytes, words_of_bytes}
use Rattle.units.specs.Rules.{first}
use Rattle.units.specs.Words.{word_count}
use Rattle.codec.specs.Table.{body_bytes}
use Rattle.numbering.specs.Numbering.{wanted_number, rollover_met}
use Rattle.layout.specs.Scanline.{head_of, pixel_offset, Reading, reading_of}
use Rattle.layout.specs.Chain.{Raster, start, reached, number_of, reading_at}
use Rattle.layout.proofs.Laws.Chain.{start_zero, reached-zero, length-reading}
use Rattle.layout.proofs.Laws.Line.{length-row}
use Rattle.layout.proofs.Laws.Numbering.{RolloverKnown, number_met, known_next, known_first}
use Rattle.scan_scanline.specs.Answer.{body_start, first_column}
use Rattle.encode_answer.specs.Sizes.{most_words, WriteNumbers, answer_by}
use Rattle.transcode_parts.specs.Headers.{other_type}
use Rattle.transcode_parts.specs.Rules.{found_rules}
use Rattle.transcode.specs.declared.LineSurvey.{LineSurvey}
use Rattle.transcode.specs.declared.Survey.{Survey}
use Rattle.transcode.specs.File.{new_lines}
use Rattle.transcode.specs.Transcoding.{any_line, is_refused, is_partway, is_long, line_rules}
use Rattle.transcode.specs.Laws.Answer.{old_row, new_size, Ready, IsSurvey, Surveyed}
use Rattle.transcode.proofs.Laws.Lines.{line_some, line_next, line_first, lines_first, lent, lent_is, reading_is, head_is, next_within, reached_next, start_next, length-line, line_most}

-- a first column that is not 0
pub partway_by : (scn : ℕ) (rest : List ℕ) {column : ℕ} → column ≡ first_column scn rest
    → not (eqb column 0) ≡ (eqb scn 1 && not (eqb (pixel_offset (head_of rest)) 0))
partway_by scn rest e = ap (λ (n : ℕ). not (eqb n 0)) e ∙ go (eqb scn 1)
  where
    go : (b : Bool) → not (eqb (cond b (pixel_offset (head_of rest)) 0) 0) ≡ (b && not (eqb (pixel_offset (head_of rest)) 0))
    go true = refl
    go false = refl

pub record SurveyAt (r : Raster) (at rollover : ℕ) (partway long : Bool) (size : ℕ) (row : List ℕ) (k : ℕ) : Type 0 where
  pub low : k ≤ r.nol
  pub here : at ≡ start r k
  pub within : at ≤ length r.bytes
  pub there : reached r k ≡ true
  pub known : RolloverKnown r k rollover
  pub good : any_line (is_refused r) k ≡ false
  pub partway_is : partway ≡ any_line (is_partway r) k
  pub long_is : long ≡ any_line (is_long r) k
  pub size_is : size ≡ length (new_lines r k)
  pub size_most : size ≤ 262152 * k
  pub wide : length row ≡ r.ppl

pub survey_first : {r : Raster} {row : List ℕ} → Ready r row → SurveyAt r r.data_start 0 false false 0 row 0
survey_first {r} {row} ready =
    record {
      low = zero-le;
      here = sym (start_zero r);
      within = ready.starts;
      there = reached-zero r;
      known = known_first r 0;
      good = line_first (is_refused r);
      partway_is = sym (line_first (is_partway r));
      long_is = sym (line_first (is_long r));
      size_is = sym (ap length (lines_first r));
      size_most = zero-le;
      wide = ready.wide;
    }

module _ {r : Raster} {at rollover : ℕ} {partway long : Bool} {size : ℕ} {row : List ℕ} {k : ℕ} (now : SurveyAt r at rollover partway long size row k)
    (more : k < r.nol) {to met number : ℕ} (typed : to ≡ other_type r.data_type)
    (meets : met ≡ rollover_met rollover k (lent r k at now.here now.there)) (wanted : number ≡ wanted_number met k) where
  abbrev rest : List ℕ
  rest = lent r k at now.here now.there

  numbered : number ≡ number_of r k
  numbered = number_met r k rollover now.known now.there (lent_is r k at now.here now.there) meets wanted

  -- what is read, by the row's width, is the raster's scanline
  reads : reading_of r.scn r.data_type (length row) number rest ≡ reading_at r k
  reads =
      ap (λ (p : ℕ). reading_of r.scn r.data_type p number rest) now.wide ∙ sym (reading_is r k at now.here now.there numbered)

  -- the row has its width still
  pub row_kept : {row' : List ℕ} → row' ≡ old_row r.scn r.data_type (length row) number rest → length row' ≡ r.ppl
  row_kept e = ap length e ∙ length-row r.scn r.data_type (length row) rest number ∙ now.wide

  -- its status, whatever tells it: where that is not 0 the scanline is refused, and so the sheet is
  status_is : {status : ℕ} → status ≡ (reading_of r.scn r.data_type (length row) number rest).status → status ≡ (reading_at r k).status
  status_is e = e ∙ ap (λ (x : Reading). x.status) reads

  pub survey_refused_status : {status : ℕ} → status ≡ (reading_of r.scn r.data_type (length row) number rest).status → (status ≡ 0 → ⊥)
      → Surveyed r (record { refused = true; partway = partway; long = long; size = n_bytes size })
  survey_refused_status e some =
      let has : is_refused r k ≡ true = ap not (ne_eqb (reading_at r k).status 0 (λ z. some (status_is e ∙ z))) in
      record {
        refused = sym (line_some (is_refused r) r.nol k more has);
        partway = λ e. absurd (false≢true (sym e));
        long = λ e. absurd (false≢true (sym e));
        size = λ e. absurd (false≢true (sym e));
        most = omega (arith, now.size_most);
      }

  -- by a fault
  pub survey_refused : (f : Fault) → mark_of f ≡ (reading_of r.scn r.data_type (length row) number rest).status
      → Surveyed r (record { refused = true; partway = partway; long = long; size = n_bytes size })
  survey_refused f e =
      let some : (reading_at r k).status ≡ 0 → ⊥ = λ z. marked f (e ∙ ap (λ (x : Reading). x.status) reads ∙ z) in
      let has : is_refused r k ≡ true = ap not (ne_eqb (reading_at r k).status 0 some) in
      record {
        refused = sym (line_some (is_refused r) r.nol k more has);
        partway = λ e. absurd (false≢true (sym e));
        long = λ e. absurd (false≢true (sym e));
        size = λ e. absurd (false≢true (sym e));
        most = omega (arith, now.size_most);
      }

  module _ (good : 0 ≡ (reading_of r.scn r.data_type (length row) number rest).status) {s : LineSurvey}
      (line : IsSurvey r.scn r.data_type (length row) number to rest s) where
    good_here : (reading_at r k).status ≡ 0
    good_here = sym (good ∙ ap (λ (x : Reading). x.status) reads)

    -- by the raster's width and the other type
    surveyed : IsSurvey r.scn r.data_type r.ppl number (other_type r.data_type) rest s
    surveyed =
        subst (λ (p : ℕ). IsSurvey r.scn r.data_type p number (other_type r.data_type) rest s) now.wide
        (subst (λ (t : ℕ). IsSurvey r.scn r.data_type (length row) number t rest s) typed line)

    pub used_within : at + s.used.0 ≤ length r.bytes
    used_within = omega (arith, surveyed.used, next_within r k at now.here now.there now.within)

    pub body_most : r.ppl ≤ 65535 → {head : ℕ} → head ≡ body_start r.scn → head + s.body.0 ≤ 262152
    body_most p h =
        let new = (reading_of r.scn r.data_type r.ppl number rest).row in
        let l : length new ≡ r.ppl = sym (ap (λ (x : Reading). length x.row) (reading_is r k at now.here now.there numbered)) ∙ length-reading r k in
        omega (arith, h, surveyed.body, line_most r.scn (other_type r.data_type) new (omega arith))

    -- one scanline more
    pub survey_next : r.ppl ≤ 65535 → {head words : ℕ} {partway' long' : Bool} {row' : List ℕ} → head ≡ body_start r.scn
        → partway' ≡ (partway || s.partway) → words ≡ (words_of_bytes s.body).0 → long' ≡ (long || ltb most_words.0 words)
        → row' ≡ old_row r.scn r.data_type (length row) number rest
        → SurveyAt r (at + s.used.0) met partway' long' (size + (head + s.body.0)) row' (k + 1)
    survey_next p {head} {words} {partway'} {long'} {row'} h a w b l =
        let x = reading_is r k at now.here now.there numbered in
        let t = other_type r.data_type in
        let body : (words_of_bytes s.body).0 ≡ (word_count (body_bytes t r.scn (reading_at r k).row)).0 =
        ap (λ (n : ℕ). (words_of_bytes (n_bytes n)).0) (surveyed.body ∙ sym (ap (λ (y : Reading). length (body_bytes t r.scn y.row)) x)) in
        subst⁻¹ (λ (n : ℕ). SurveyAt r (at + s.used.0) met partway' long' (size + (head + s.body.0)) row' n) (add-one k)
        (record {
          low = more;
          here = start_next r k at now.here now.there numbered good_here surveyed.used;
          within = used_within;
          there = reached_next r k at now.here now.there numbered good_here;
          known = known_next r k rollover now.known now.there (lent_is r k at now.here now.there) meets;
          good = line_next (is_refused r) k ∙ ap₂ ◌||◌ now.good (ap not (eq-eqb (reading_at r k).status 0 good_here));
          partway_is =
              a
              ∙ ap₂ ◌||◌ now.partway_is
              (surveyed.partway
              ∙ sym (ap (λ (y : List ℕ). eqb r.scn 1 && not (eqb (pixel_offset y) 0)) (head_is r k at now.here now.there)))
              ∙ sym (line_next (is_partway r) k);
          long_is = b ∙ ap₂ ◌||◌ now.long_is (ap (ltb most_words.0) (w ∙ body)) ∙ sym (line_next (is_long r) k);
          size_is =
              (λ j. now.size_is j + (h j + s.body.0))
              ∙ sym (length-line r k at now.here now.there numbered good_here surveyed.body);
          size_most = omega (arith, now.size_most, body_most p h);
          wide = row_kept l;
        })

-- none is refused
pub survey_done : (r : Raster) (at rollover : ℕ) (partway long : Bool) (size : ℕ) (row : List ℕ) (k : ℕ) → SurveyAt r at rollover partway long size row k → k ≡ r.nol
    → Surveyed r (record { refused = false; partway = partway; long = long; size = n_bytes size })
survey_done r at rollover partway long size row k now e =
    record {
      refused = sym (ap (any_line (is_refused r)) (sym e) ∙ now.good);
      partway = λ z. now.partway_is ∙ ap (any_line (is_partway r)) e;
      long = λ z. now.long_is ∙ ap (any_line (is_long r)) e;
      size = λ z. now.size_is ∙ ap (λ (n : ℕ). length (new_lines r n)) e;
      most = omega (arith, now.size_most);
    }

-- The answer by a survey. Where a scanline is refused the rest of it does not matter.
pub planned : (r : Raster) (room : ℕ) {s : Survey} → Surveyed r s → {a : WriteNumbers}
    → (let size = r.data_start + s.size.0 in
    a ≡ answer_by (first (found_rules r.scn s.refused s.partway s.long size room)) size)
    → a ≡ answer_by (first (line_rules r (new_size r) room)) (new_size r)
planned r room {s} surveyed e = e ∙ go s.refused refl
  where
    go : (b : Bool) → s.refused ≡ b
        → (let size = r.data_start + s.size.0 in
        answer_by (first (found_rules r.scn s.refused s.partway s.long size room)) size ≡ answer_by (first (line_rules r (new_size r) room)) (new_size r))
    go true t = simp (t, sym surveyed.refused ∙ t)
    go false t =
        λ j.
        let size = r.data_start + surveyed.size t j in
        answer_by (first (found_rules r.scn (surveyed.refused j) (surveyed.partway t j) (surveyed.long t j) size room)) size
