-- One scanline put at the start of an output.
use Rattle.std.specs.Prelude.{◌≡◌, ℕ, ◌+◌, ◌-◌, ◌≤◌, List, [], ◌∷◌, ◌++◌, length, take, drop, ◌≢◌}
use Rattle.std.proofs.Common.{sym, ◌∙◌, ap, append_assoc, arith, length-append, length-drop, length-take-le, drop_at, drop-drop, eq-eqb, ne_eqb}
use borrow.Rule.Slice.PartMut.{mid_of, put_mid}
use Rattle.units.specs.Counts.{n_bytes, words_of_bytes}
use Rattle.units.specs.Words.{words_to_bytes, word_count}
use Rattle.units.specs.Over.{over}
use Rattle.units.proofs.Laws.Over.{over_fits}
use Rattle.units.proofs.Laws.Stores.{length-bytes}
use Rattle.codec.specs.Table.{body_bytes}
use Rattle.encode_raster.specs.File.{line_header, line_bytes}
use Rattle.encode_raster.specs.Laws.Answer.{LineFits}
use Rattle.encode_raster.proofs.Laws.Bounds.{length-line}
use Rattle.units.proofs.Laws.Parts.{tail_is, put_tail}

abbrev header_words : ℕ → ℕ → List ℕ
header_words follow number = 0x5900 ∷ (follow ∷ (number ∷ (0 ∷ [])))

module _ (t scn number : ℕ) (row : List ℕ) where
  open_is : (scn ≢ 1) → line_bytes t scn number row ≡ body_bytes t scn row
  unfolding line_bytes
  open_is n = rw (ne_eqb scn 1 n)

  headed_is : scn ≡ 1 → line_bytes t scn number row ≡ line_header number (body_bytes t scn row) ++ body_bytes t scn row
  unfolding line_bytes
  headed_is e = rw (eq-eqb scn 1 e)

  headed-length : scn ≡ 1 → length (line_bytes t scn number row) ≡ 8 + length (body_bytes t scn row)
  headed-length e = rw (eq-eqb scn 1 e) at (length-line t scn number row)

module _ (t scn number : ℕ) (row out : List ℕ) (fits : LineFits t scn number row out) where
  -- without a header
  pub line_open : (scn ≢ 1) → {size : ℕ} {now : List ℕ}
      → (size ≡ length (body_bytes t scn row)) × (now ≡ over (body_bytes t scn row) out)
      → (size ≡ length (line_bytes t scn number row)) × (now ≡ line_bytes t scn number row ++ drop (length (line_bytes t scn number row)) out)
  line_open n e =
      let o = open_is t scn number row n in
      let r : length (body_bytes t scn row) ≤ length out = rw o at fits.room in
      rw o (e.0, e.1 ∙ over_fits (body_bytes t scn row) out r)

  -- with one: the body is put first
  module _ (one : scn ≡ 1) where
    pub headed_room : 8 + length (body_bytes t scn row) ≤ length out
    headed_room = omega (arith, fits.room, headed-length t scn number row one)

    pub line-headed : {size follow : ℕ} {part now : List ℕ}
        → (size ≡ length (body_bytes t scn row)) × (part ≡ over (body_bytes t scn row) (mid_of 8 (length out - 8) out))
        → follow ≡ (words_of_bytes (n_bytes size)).0
        → now ≡ over (words_to_bytes (header_words (follow + 2) number)) (put_mid 8 (length out - 8) out part)
        → (8 + size ≡ length (line_bytes t scn number row))
        × (now ≡ line_bytes t scn number row ++ drop (length (line_bytes t scn number row)) out)
    line-headed {size} {follow} {part} e f p =
        let body = body_bytes t scn row in
        let room = headed_room in
        let fit : length body ≤ length (drop 8 out) = omega (arith, length-drop 8 out) in
        let len : 8 + size ≡ length (line_bytes t scn number row) = ap (λ (n : ℕ). 8 + n) e.0 ∙ sym (headed-length t scn number row one) in
        let put : part ≡ body ++ drop (8 + length body) out =
        e.1 ∙ ap (λ (x : List ℕ). over body x) (tail_is 8 out) ∙ over_fits body (drop 8 out) fit ∙ ap (λ (x : List ℕ). body ++ x) (drop-drop (length body) 8 out) in
        let placed = put_mid 8 (length out - 8) out part in
        let wide : 8 ≤ length placed = rw (put_tail 8 out part) (omega (arith, length-append (take 8 out) part, length-take-le 8 out (omega arith))) in
        let behind : drop 8 placed ≡ part =
        ap (λ (x : List ℕ). drop 8 x) (put_tail 8 out part) ∙ drop_at (take 8 out) part 8 (length-take-le 8 out (omega arith)) in (
          len,
          p
              ∙ ap (λ (n : ℕ). over (words_to_bytes (header_words (n + 2) number)) placed) (f ∙ ap (λ (n : ℕ). (words_of_bytes (n_bytes n)).0) e.0)
              ∙ over_fits (line_header number body) placed (omega (arith, wide, length-bytes (header_words ((word_count body).0 + 2) number)))
              ∙ ap (λ (n : ℕ). line_header number body ++ drop n placed) (length-bytes _)
              ∙ ap (λ (x : List ℕ). line_header number body ++ x) (behind ∙ put)
              ∙ sym (append_assoc (line_header number body) body (drop (8 + length body) out))
              ∙ ap (λ (x : List ℕ). x ++ drop (8 + length body) out) (sym (headed_is t scn number row one))
              ∙ ap (λ (n : ℕ). line_bytes t scn number row ++ drop n out) (sym (headed-length t scn number row one)),
        )
