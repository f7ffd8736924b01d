-- A raster whose bytes are a header followed by the scanlines of a picture: they stand one after the other, each good, and read as the
-- picture's rows.
use Prim.Native.Nat.{ℕ, zero, suc, ◌*◌, ◌≤◌, ◌<◌}
use Rattle.std.specs.Prelude.{◌≡◌, refl, List, ◌++◌, length, take}
use Rattle.std.proofs.Common.{sym, ◌∙◌, zero-mul, arith, take-add}
use Rattle.std.proofs.Math.Path.{ap, subst⁻¹}
use Rattle.std.proofs.Math.Nat.{suc-mul}
use Rattle.units.specs.LittleEndian.{u16_at}
use Rattle.units.specs.Words.{words_to_bytes}
use Rattle.codec.specs.Table.{codec_of, body_bytes}
use Rattle.codec.proofs.Laws.RoundTrip.{ReadBack}
use Rattle.layout.specs.Scanline.{Reading, Step, step_of, reading_of}
use Rattle.numbering.specs.Numbering.{first_past, written_number, stored_number}
use Rattle.numbering.proofs.Laws.Numbering.{same_wanted, written-wanted}
use Rattle.layout.specs.Chain.{Raster, rollover_of, number_of, rows}
use Rattle.layout.proofs.Laws.Written.{Back, Heads, line_back}
use Rattle.layout.proofs.Laws.Numbering.{rollover_is}
use Rattle.layout.proofs.Laws.Lined.{Lined, head_there, reads}
use Rattle.encode_header.specs.Picture.{Picture, row_at}
use Rattle.encode_raster.specs.File.{line_header, line_bytes, lines_of}
use Rattle.read_back.proofs.Laws.Given.{Given}
use Rattle.read_back.proofs.Laws.Rows.{row_facts}

-- a scanline header as it is written
heads : (number : ℕ) (body : List ℕ) → Heads (line_header number body) number body
unfolding words_to_bytes u16_at
heads number body = record { eight = refl; identifier = refl; follow = omega arith; line-number = omega arith; offset = refl }

written_back : (scn t p number : ℕ) (row rest : List ℕ) → scn ≤ 1 → length row ≡ p → ReadBack (codec_of t) row
    → let all = line_bytes t scn number row ++ rest in
    Back (step_of scn t p all) (reading_of scn t p number all) row (length (line_bytes t scn number row))
unfolding line_bytes
written_back scn t p number row rest low l b =
    let body = body_bytes t scn row in
    line_back scn t p number (line_header number body) row rest low l (λ s. heads number body) b

abbrev pub line_of_picture : Picture → ℕ → List ℕ
line_of_picture i k = line_bytes i.dtc i.scn (written_number k) (row_at i k)

-- a raster whose fields are the picture's
pub record Written (i : Picture) (r : Raster) (hd : List ℕ) : Type 0 where
  pub file : r.bytes ≡ hd ++ lines_of i i.nol
  pub starts : r.data_start ≡ length hd
  pub scn : r.scn ≡ i.scn
  pub type : r.data_type ≡ i.dtc
  pub ppl : r.ppl ≡ i.ppl

module _ (i : Picture) (r : Raster) (hd : List ℕ) (g : Given i) (w : Written i r hd) where
  pub lined : Lined r i.nol written_number (line_of_picture i) (lines_of i) (row_at i)
  unfolding lines_of
  lined =
      record {
        head = hd;
        none = refl;
        next = λ k. refl;
        file = w.file;
        starts = w.starts;
        back =
            λ k h rest.
            let x = row_facts i g k h in
            let all = line_of_picture i k ++ rest in
            let steps : step_of r.scn r.data_type r.ppl all ≡ step_of i.scn i.dtc i.ppl all = λ j. step_of (w.scn j) (w.type j) (w.ppl j) all in
            let readings : reading_of r.scn r.data_type r.ppl (written_number k) all ≡ reading_of i.scn i.dtc i.ppl (written_number k) all =
            λ j. reading_of (w.scn j) (w.type j) (w.ppl j) (written_number k) all in
            subst⁻¹ (λ (y : Step). Back y (reading_of r.scn r.data_type r.ppl (written_number k) all) (row_at i k) (length (line_of_picture i k))) steps
            (subst⁻¹ (λ (y : Reading). Back (step_of i.scn i.dtc i.ppl all) y (row_at i k) (length (line_of_picture i k))) readings
            (written_back i.scn i.dtc i.ppl (written_number k) (row_at i k) rest g.limits.scn_most x.full x.back));
      }

  -- the numbers written are those that are wanted, by the one of line 65,536
  rollover_written : r.scn ≡ 1 → 65535 < i.nol → rollover_of r ≡ written_number first_past
  unfolding line_bytes
  rollover_written one h =
      let body = body_bytes i.dtc i.scn (row_at i first_past) in
      let x = heads (written_number first_past) body in
      let e : line_of_picture i first_past ≡ line_header (written_number first_past) body ++ body = rw (sym w.scn ∙ one) in
      rollover_is r
      ∙ ap stored_number
      (head_there r i.nol written_number (line_of_picture i) (lines_of i) (row_at i) lined first_past h (line_header (written_number first_past) body) body e x.eight)
      ∙ x.line-number

  pub numbered : r.scn ≡ 1 → (k : ℕ) → k < i.nol → number_of r k ≡ written_number k
  numbered one k h =
      same_wanted (rollover_of r) (written_number first_past) k (λ past. rollover_written one (omega arith)) ∙ written-wanted k

  pub rows_are : (n : ℕ) → n ≤ i.nol → rows r n ≡ take (n * i.ppl) i.pixels
  unfolding rows
  rows_are zero h = rw (zero-mul i.ppl)
  rows_are (suc n) h =
      rw (rows_are n (omega arith), (reads r i.nol written_number (line_of_picture i) (lines_of i) (row_at i) lined numbered n h).row_is, suc-mul n i.ppl)
      (sym (take-add (n * i.ppl) i.ppl i.pixels))
