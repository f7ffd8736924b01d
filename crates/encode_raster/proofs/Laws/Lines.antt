-- The loop that writes the scanlines: what holds before scanline k, at its start, from turn to turn and at its end.
use Rattle.std.specs.Prelude.{◌≡◌, ℕ, zero, suc, ◌+◌, ◌-◌, ◌<◌, ◌≤◌, Bool, true, false, ◌||◌, List, ◌++◌, length, drop, nat_lt, refl}
use Rattle.std.proofs.Common.{zero-le, ◌∙◌, true≢false, ⊎_elim, eq-or-lt_of_le, add-one, eq-eqb, ltb-false}
use Rattle.std.proofs.Math.Path.{sym, ap, subst⁻¹}
use native.Mathlib.Omega.{arith}
use Rattle.std.proofs.Math.ListN.{length-append, length-drop}
use borrow.Rule.Slice.PartMut.{mid_of, put_mid, same_len_mid}
use Rattle.units.specs.Words.{word_count}
use Rattle.codec.specs.Table.{body_bytes}
use Rattle.numbering.specs.Numbering.{written_number}
use Rattle.encode_header.specs.Picture.{Picture, row_at}
use Rattle.encode_raster.specs.File.{line_bytes, lines_of}
use Rattle.encode_raster.specs.Writing.{any_long}
use Rattle.encode_answer.specs.Sizes.{most_words}
use Rattle.encode_raster.specs.Laws.Answer.{LineFits, LinesFit}
use Rattle.encode_raster.proofs.Laws.Bounds.{length_next}
use Rattle.units.proofs.Laws.Parts.{tail_is, put_next}

-- fewer scanlines are no longer
grows : (i : Picture) (n k : ℕ) → k ≤ n → length (lines_of i k) ≤ length (lines_of i n)
grows i zero k h = let e : k ≡ 0 = omega arith in rw e (omega arith)
grows i (suc n) k h =
    ⊎_elim
    (λ e. rw e (omega arith))
    (λ l. omega (arith, grows i n k (omega arith), length_next i n))
    (eq-or-lt_of_le h)

or_none : (a b : Bool) → (a || b) ≡ false → (a ≡ false) × (b ≡ false)
or_none false b e = (refl, e)
or_none true b e = absurd (true≢false e)

counted_each : (i : Picture) (n k : ℕ) → any_long i n ≡ false → k < n → (word_count (body_bytes i.dtc i.scn (row_at i k))).0 ≤ most_words.0
unfolding any_long
counted_each i zero k e h = absurd (omega arith)
counted_each i (suc n) k e h =
    let o = or_none (any_long i n) (nat_lt most_words.0 (word_count (body_bytes i.dtc i.scn (row_at i n))).0) e in
    let g : k ≤ n = omega arith in
    ⊎_elim
    (λ s. rw s (ltb-false most_words.0 (word_count (body_bytes i.dtc i.scn (row_at i n))).0 o.1))
    (λ l. counted_each i n k o.0 l)
    (eq-or-lt_of_le g)

pub record LinesAt (i : Picture) (out₀ out : List ℕ) (at k : ℕ) : Type 0 where
  pub low : k ≤ i.nol
  pub at_is : at ≡ length (lines_of i k)
  pub out_is : out ≡ lines_of i k ++ drop at out₀
  pub same : length out ≡ length out₀

-- before the first
pub lines_first : (i : Picture) (out : List ℕ) → LinesAt i out out 0 0
unfolding lines_of
lines_first i out = record { low = zero-le; at_is = refl; out_is = refl; same = refl }

-- what is known when scanline k is to be written, with this line number
pub record Turn (i : Picture) (out₀ out : List ℕ) (at number k : ℕ) : Type 0 where
  pub at_within : at ≤ length out
  -- it fits the part that is lent for it
  pub line_fits : LineFits i.dtc i.scn number (row_at i k) (mid_of at (length out - at) out)
  pub size_within : {size : ℕ} → size ≡ length (line_bytes i.dtc i.scn number (row_at i k)) → at + size ≤ length out
  -- one scanline more
  pub lines_next : {size : ℕ} {part : List ℕ}
      → (size ≡ length (line_bytes i.dtc i.scn number (row_at i k)))
      × (part ≡ line_bytes i.dtc i.scn number (row_at i k)
      ++ drop (length (line_bytes i.dtc i.scn number (row_at i k))) (mid_of at (length out - at) out))
      → LinesAt i out₀ (put_mid at (length out - at) out part) (at + size) (k + 1)

module _ (i : Picture) (out₀ out : List ℕ) (at k : ℕ) (now : LinesAt i out₀ out at k) (more : k < i.nol) (fit : LinesFit i i.nol out₀) where
  line_room : at + length (line_bytes i.dtc i.scn (written_number k) (row_at i k)) ≤ length out
  unfolding lines_of
  line_room =
      omega (
        arith,
        grows i i.nol (suc k) more,
        length-append (lines_of i k) (line_bytes i.dtc i.scn (written_number k) (row_at i k)),
        now.at_is,
        now.same,
        fit.room,
      )

  tail_length : length (mid_of at (length out - at) out) ≡ length out - at
  tail_length = ap length (tail_is at out) ∙ length-drop at out

  line_fits : LineFits i.dtc i.scn (written_number k) (row_at i k) (mid_of at (length out - at) out)
  line_fits =
      record {
        room = omega (arith, line_room, tail_length);
        counted = λ one. counted_each i i.nol k (rw (eq-eqb i.scn 1 one) at fit.counted) more;
      }

  lines_next : {size : ℕ} {part : List ℕ}
      → (size ≡ length (line_bytes i.dtc i.scn (written_number k) (row_at i k)))
      × (part ≡ line_bytes i.dtc i.scn (written_number k) (row_at i k)
      ++ drop (length (line_bytes i.dtc i.scn (written_number k) (row_at i k))) (mid_of at (length out - at) out))
      → LinesAt i out₀ (put_mid at (length out - at) out part) (at + size) (k + 1)
  unfolding lines_of
  lines_next {size} {part} e =
      let line = line_bytes i.dtc i.scn (written_number k) (row_at i k) in
      let s : size ≡ length line = e.0 in
      let p : part ≡ line ++ drop (length line) (mid_of at (length out - at) out) = e.1 in
      let full : length part ≡ length (mid_of at (length out - at) out) =
      omega (
        arith,
        ap length p,
        length-append line (drop (length line) (mid_of at (length out - at) out)),
        length-drop (length line) (mid_of at (length out - at) out),
        line_room,
        tail_length,
      ) in
      subst⁻¹ (λ (n : ℕ). LinesAt i out₀ (put_mid at (length out - at) out part) (at + size) n) (add-one k)
      (record {
        low = more;
        at_is = (λ j. now.at_is j + s j) ∙ sym (length-append (lines_of i k) line);
        out_is =
            put_next (lines_of i k) line out₀ out part at (sym now.at_is) now.out_is p
            ∙ ap (λ (n : ℕ). (lines_of i k ++ line) ++ drop (at + n) out₀) (sym s);
        same = same_len_mid at (length out - at) out part full ∙ now.same;
      })

  size_within : {size : ℕ} → size ≡ length (line_bytes i.dtc i.scn (written_number k) (row_at i k)) → at + size ≤ length out
  size_within e = omega (arith, line_room)

  pub turn : {number : ℕ} → number ≡ written_number k → Turn i out₀ out at number k
  turn e =
      subst⁻¹ (λ (n : ℕ). Turn i out₀ out at n k) e
      (record { at_within = omega (arith, line_room); line_fits = line_fits; size_within = size_within; lines_next = lines_next })

-- all are written
pub lines_done : (i : Picture) (n : ℕ) (out₀ out : List ℕ) (at k : ℕ) → LinesAt i out₀ out at k → k ≡ n
    → out ≡ lines_of i n ++ drop (length (lines_of i n)) out₀
lines_done i n out₀ out at k now e =
    now.out_is
    ∙ ap (λ (m : ℕ). lines_of i k ++ drop m out₀) now.at_is
    ∙ ap (λ (m : ℕ). lines_of i m ++ drop (length (lines_of i m)) out₀) e
