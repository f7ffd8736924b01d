-- One new scanline put at the start of an output; and the loop that writes them: what holds before scanline k, at its start, from turn to
-- turn and at its end.
use Rattle.std.specs.Prelude.{ℕ, zero, suc, ◌+◌, ◌-◌, ◌/◌, ◌%◌, ◌≤◌, ◌<◌, min, ◌≡◌, refl, true, false, List, ◌++◌, length, take, drop, set, eqb}
use Rattle.std.proofs.Common.{zero-le, sym, ◌∙◌, ap, append_assoc, ⊎_elim, eq-or-lt_of_le, add-one, arith, eq-eqb, ne_eqb, eqb-true, ltb-false, length-append, length-drop, length-set, drop-drop, drop_at, length-take-le}
use Rattle.std.proofs.Math.Path.{subst⁻¹}
use Rattle.std.proofs.lemmas.Bool.{not-false}
use borrow.Rule.Slice.PartMut.{mid_of, put_mid, same_len_mid}
use Rattle.std.proofs.lemmas.List.Edits.{sets}
use Rattle.std.proofs.lemmas.List.{set-append_left}
use Rattle.units.specs.Counts.{n_bytes, words_of_bytes}
use Rattle.units.specs.Over.{over}
use Rattle.units.specs.Words.{word_count, two_bytes}
use Rattle.units.proofs.Laws.Over.{over_fits}
use Rattle.units.proofs.Laws.Parts.{tail_is, put_tail, put_next}
use Rattle.codec.specs.Table.{body_bytes}
use Rattle.numbering.specs.Numbering.{wanted_number, rollover_met}
use Rattle.layout.specs.Scanline.{head_of, Reading, step_of}
use Rattle.layout.specs.Chain.{Raster, start, reached, number_of, reading_at}
use Rattle.layout.proofs.Laws.Chain.{start_zero, reached-zero}
use Rattle.layout.proofs.Laws.Line.{length-row}
use Rattle.layout.proofs.Laws.Numbering.{RolloverKnown, number_met, known_next, known_first}
use Rattle.encode_answer.specs.Sizes.{most_words}
use Rattle.transcode_parts.specs.Headers.{other_type, fitted}
use Rattle.transcode.specs.declared.LineSizes.{LineSizes}
use Rattle.transcode.specs.File.{fitted_header, new_line, new_line_at, new_lines}
use Rattle.transcode.specs.Transcoding.{any_line, is_refused, is_long}
use Rattle.transcode.specs.Laws.Answer.{Ready, old_row, LineFits, IsWritten, LinesFit}
use Rattle.transcode.proofs.Laws.Lines.{line-none, lines_first, lines_next, length-new, lent, lent_is, reading_is, next_within, reached_next, start_next, eight_lent, line-lent}

-- a word put into the first of two lists
pub word_first : (a b : List ℕ) (i w : ℕ) → i + 2 ≤ length a → sets (a ++ b) i (two_bytes w) ≡ sets a i (two_bytes w) ++ b
word_first a b i w h =
    ap (λ (l : List ℕ). set l (suc i) (w / 256)) (set-append_left a b i (w % 256) (omega arith))
    ∙ set-append_left (set a i (w % 256)) b (suc i) (w / 256) (omega (arith, length-set a i (w % 256)))

module _ (scn to : ℕ) (rest row out : List ℕ) (fits : LineFits scn to (head_of rest) row out) where
  abbrev body : List ℕ
  body = body_bytes to scn row

  abbrev line : List ℕ
  line = new_line scn to (head_of rest) row

  open_is : (scn ≡ 1 → ⊥) → line ≡ body
  unfolding new_line
  open_is n = rw (ne_eqb scn 1 n)

  headed_is : scn ≡ 1 → line ≡ fitted_header (head_of rest) body ++ body
  unfolding new_line
  headed_is e = rw (eq-eqb scn 1 e)

  -- without a header
  pub line_open : (scn ≡ 1 → ⊥) → {size : ℕ} {now : List ℕ} → (size ≡ length body) × (now ≡ over body out)
      → (size ≡ length line) × (now ≡ line ++ drop (length line) out)
  line_open n e =
      let o = open_is n in
      let r : length body ≤ length out = omega (arith, fits.room, ap length o) in
      rw o (e.0, e.1 ∙ over_fits body out r)

  -- with one: the body is put behind its place, and then it is put there, fitted
  module _ (one : scn ≡ 1) where
    length-headed : length line ≡ 8 + length body
    length-headed = rw (eq-eqb scn 1 one) at (length-new scn to (head_of rest) row fits.eight)

    pub headed_room : 8 + length body ≤ length out
    headed_room = omega (arith, fits.room, length-headed)

    pub line-headed : {size words : ℕ} {part now : List ℕ}
        → (size ≡ length body) × (part ≡ over body (mid_of 8 (length out - 8) out))
        → words ≡ (words_of_bytes (n_bytes size)).0
        → now ≡ fitted (over (head_of rest) (put_mid 8 (length out - 8) out part)) (min words most_words.0)
        → (8 + size ≡ length line) × (now ≡ line ++ drop (length line) out)
    line-headed {size} {words} {part} e f p =
        let hd = head_of rest in
        let eight = fits.eight one in
        let put : part ≡ body ++ drop (8 + length body) out =
        e.1
        ∙ ap (over body) (tail_is 8 out)
        ∙ over_fits body (drop 8 out) (omega (arith, length-drop 8 out, headed_room))
        ∙ ap (λ (l : List ℕ). body ++ l) (drop-drop (length body) 8 out) in
        let front : length (take 8 out) ≡ 8 = length-take-le 8 out (omega (arith, headed_room)) in
        let placed : over hd (put_mid 8 (length out - 8) out part) ≡ hd ++ part =
        ap (over hd) (put_tail 8 out part)
        ∙ over_fits hd (take 8 out ++ part) (omega (arith, eight, front, length-append (take 8 out) part))
        ∙ ap (λ (l : List ℕ). hd ++ l) (drop_at (take 8 out) part (length hd) (front ∙ sym eight)) in
        let w : min words most_words.0 ≡ (word_count body).0 = omega (arith, f, e.0, fits.counted one) in (
          omega (arith, e.0, length-headed),
          p
              ∙ (λ j. fitted (placed j) (w j))
              ∙ word_first hd part 2 ((word_count body).0 + 2) (omega (arith, eight))
              ∙ ap (λ (l : List ℕ). fitted_header hd body ++ l) put
              ∙ sym (append_assoc (fitted_header hd body) body (drop (8 + length body) out))
              ∙ ap (λ (l : List ℕ). l ++ drop (8 + length body) out) (sym (headed_is one))
              ∙ ap (λ (n : ℕ). line ++ drop n out) (sym length-headed),
        )

-- fewer scanlines are no longer
grows : (r : Raster) (n k : ℕ) → k ≤ n → length (new_lines r k) ≤ length (new_lines r n)
grows r zero k h = let e : k ≡ 0 = omega arith in rw e (omega arith)
grows r (suc n) k h =
    ⊎_elim
    (λ e. rw e (omega arith))
    (λ l. omega (arith, grows r n k (omega arith), ap length (lines_next r n), length-append (new_lines r n) (new_line_at r n)))
    (eq-or-lt_of_le h)

pub record WrittenAt (r : Raster) (from rollover : ℕ) (row out₀ out : List ℕ) (at k : ℕ) : Type 0 where
  pub low : k ≤ r.nol
  pub here : from ≡ start r k
  pub within : from ≤ length r.bytes
  pub there : reached r k ≡ true
  pub known : RolloverKnown r k rollover
  pub wide : length row ≡ r.ppl
  pub at_is : at ≡ length (new_lines r k)
  pub out_is : out ≡ new_lines r k ++ drop at out₀
  pub same : length out ≡ length out₀

pub write_first : {r : Raster} {row : List ℕ} (out : List ℕ) → Ready r row → WrittenAt r r.data_start 0 row out out 0 0
write_first {r} {row} out ready =
    record {
      low = zero-le;
      here = sym (start_zero r);
      within = ready.starts;
      there = reached-zero r;
      known = known_first r 0;
      wide = ready.wide;
      at_is = sym (ap length (lines_first r));
      out_is = sym (ap (λ (l : List ℕ). l ++ out) (lines_first r));
      same = refl;
    }

module _ {r : Raster} {from rollover : ℕ} {row out₀ out : List ℕ} {at k : ℕ} (now : WrittenAt r from rollover row out₀ out at k) (more : k < r.nol)
    (fit : LinesFit r out₀) {to met number : ℕ} (typed : to ≡ other_type r.data_type)
    (meets : met ≡ rollover_met rollover k (lent r k from now.here now.there)) (wanted : number ≡ wanted_number met k) where
  abbrev rest : List ℕ
  rest = lent r k from now.here now.there

  abbrev old : List ℕ
  old = old_row r.scn r.data_type (length row) number rest

  numbered : number ≡ number_of r k
  numbered = number_met r k rollover now.known now.there (lent_is r k from now.here now.there) meets wanted

  good_here : (reading_at r k).status ≡ 0
  good_here =
      eqb-true (reading_at r k).status 0 (not-false (eqb (reading_at r k).status 0) (line-none (is_refused r) r.nol k more fit.good))

  row_here : old ≡ (reading_at r k).row
  row_here =
      ap (λ (p : ℕ). old_row r.scn r.data_type p number rest) now.wide
      ∙ sym (ap (λ (x : Reading). x.row) (reading_is r k from now.here now.there numbered))

  line_here : new_line r.scn to (head_of rest) old ≡ new_line_at r k
  line_here =
      (λ j. new_line r.scn (typed j) (head_of rest) (old_row r.scn r.data_type (now.wide j) number rest))
      ∙ sym (line-lent r k from now.here now.there numbered good_here)

  line_room : at + length (new_line_at r k) ≤ length out
  line_room =
      omega (
        arith,
        grows r r.nol (suc k) more,
        ap length (lines_next r k),
        length-append (new_lines r k) (new_line_at r k),
        now.at_is,
        now.same,
        fit.room,
      )

  pub at_within : at ≤ length out
  at_within = omega (arith, line_room)

  tail_length : length (mid_of at (length out - at) out) ≡ length out - at
  tail_length = ap length (tail_is at out) ∙ length-drop at out

  same_body : (word_count (body_bytes to r.scn old)).0 ≡ (word_count (body_bytes (other_type r.data_type) r.scn (reading_at r k).row)).0
  same_body j = (word_count (body_bytes (typed j) r.scn (row_here j))).0

  pub line_fits : LineFits r.scn to (head_of rest) old (mid_of at (length out - at) out)
  line_fits =
      record {
        eight = eight_lent r k from now.here now.there numbered good_here;
        room = omega (arith, line_room, tail_length, ap length line_here);
        counted =
            λ one.
            let none : any_line (is_long r) r.nol ≡ false = rw (eq-eqb r.scn 1 one) at fit.counted in
            omega (
              arith,
              same_body,
              ltb-false most_words.0 (word_count (body_bytes (other_type r.data_type) r.scn (reading_at r k).row)).0
                  (line-none (is_long r) r.nol k more none),
            );
      }

  module _ {s : LineSizes} {part : List ℕ}
      (written : IsWritten r.scn r.data_type (length row) number to rest (mid_of at (length out - at) out) s part) where
    used_is : s.used.0 ≡ (step_of r.scn r.data_type r.ppl rest).used.0
    used_is = written.used ∙ ap (λ (p : ℕ). (step_of r.scn r.data_type p rest).used.0) now.wide

    pub used_within : from + s.used.0 ≤ length r.bytes
    used_within = omega (arith, used_is, next_within r k from now.here now.there now.within)

    pub size_within : at + s.size.0 ≤ length out
    size_within = omega (arith, written.size, ap length line_here, line_room)

    -- one scanline more
    pub write_next : {row' : List ℕ} → row' ≡ old
        → WrittenAt r (from + s.used.0) met row' out₀ (put_mid at (length out - at) out part) (at + s.size.0) (k + 1)
    write_next {row'} l =
        let new = new_line_at r k in
        let size : s.size.0 ≡ length new = written.size ∙ ap length line_here in
        let p : part ≡ new ++ drop (length new) (mid_of at (length out - at) out) =
        written.out_is ∙ ap (λ (x : List ℕ). x ++ drop (length x) (mid_of at (length out - at) out)) line_here in
        let full : length part ≡ length (mid_of at (length out - at) out) =
        omega (
          arith,
          ap length p,
          length-append new (drop (length new) (mid_of at (length out - at) out)),
          length-drop (length new) (mid_of at (length out - at) out),
          line_room,
          tail_length,
        ) in
        subst⁻¹ (λ (n : ℕ). WrittenAt r (from + s.used.0) met row' out₀ (put_mid at (length out - at) out part) (at + s.size.0) n) (add-one k)
        (record {
          low = more;
          here = start_next r k from now.here now.there numbered good_here used_is;
          within = used_within;
          there = reached_next r k from now.here now.there numbered good_here;
          known = known_next r k rollover now.known now.there (lent_is r k from now.here now.there) meets;
          wide = ap length l ∙ length-row r.scn r.data_type (length row) rest number ∙ now.wide;
          at_is = (λ j. now.at_is j + size j) ∙ sym (ap length (lines_next r k) ∙ length-append (new_lines r k) new);
          out_is =
              put_next (new_lines r k) new out₀ out part at (sym now.at_is) now.out_is p
              ∙ (λ j. sym (lines_next r k) j ++ drop (at + sym size j) out₀);
          same = same_len_mid at (length out - at) out part full ∙ now.same;
        })

-- all are written
pub write_done : (r : Raster) (from rollover : ℕ) (row out₀ out : List ℕ) (at k : ℕ) → WrittenAt r from rollover row out₀ out at k → k ≡ r.nol
    → out ≡ new_lines r r.nol ++ drop (length (new_lines r r.nol)) out₀
write_done r from rollover row out₀ out at k now e =
    now.out_is
    ∙ ap (λ (m : ℕ). new_lines r k ++ drop m out₀) now.at_is
    ∙ ap (λ (m : ℕ). new_lines r m ++ drop (length (new_lines r m)) out₀) e
