-- Demand 2, "reading them gives back every pixel": a file that is written is read as the picture that it was written from.
use Rattle.std.specs.Prelude.{ℕ, ◌*◌, ◌≤◌, ◌<◌, ◌≡◌, refl, List, ◌++◌, length, drop}
use Rattle.std.proofs.Common.{◌∙◌, ap, arith, eq-eqb}
use Rattle.fields.specs.declared.Fields.{Fields}
use Rattle.layout.specs.Chain.{Raster, sheet_of, start, rows, statuses, good_count}
use Rattle.layout.proofs.Laws.Lined.{statuses_are, good_are, end_is}
use Rattle.layout.specs.Reading.{RasterNumbers, answer_of, read_numbers, raster_reading, pixels_after, marks_after}
use Rattle.numbering.specs.Numbering.{written_number}
use Rattle.encode_header.specs.Picture.{Picture, row_at}
use Rattle.encode_raster.specs.File.{lines_of, file_bytes}
use Rattle.read_back.specs.Statement.{ReadsBack, AllReadBack}
use Rattle.read_back.proofs.Laws.Given.{Given, given}
use Rattle.read_back.proofs.Laws.Head.{fields_are}
use Rattle.read_back.proofs.Laws.Chain.{line_of_picture, lined, numbered, rows_are}
use Rattle.read_back.proofs.Laws.Accepted.{headed, written, raster-not_rejected, header_is}
use Rattle.read_back.proofs.Laws.Colors.{colors_are, plotter_colors_are}

-- the reading of a raster whose scanlines are all good
good_numbers : (r : Raster) (n : ℕ) → r.nol ≡ n → good_count r n ≡ n → start r n ≡ length r.bytes
    → read_numbers r ≡ record { answer = 0; good = n; end = length r.bytes }
good_numbers r n e g s =
    ap (λ (m : ℕ). numbers m) e ∙ (λ j. record { answer = answer_of (g j) n; good = g j; end = s j }) ∙ rw (eq-eqb n n refl)
  where
    numbers : ℕ → RasterNumbers
    numbers m = record { answer = answer_of (good_count r m) m; good = good_count r m; end = start r m }

reads : (i : Picture) (pixels marks : List ℕ) → i.drs < 65536 → Given i → i.nol * i.ppl ≤ length pixels → i.nol ≤ length marks
    → ReadsBack i pixels marks
unfolding raster_reading pixels_after marks_after
reads i pixels marks b g l m =
    let r = sheet_of (file_bytes i) in
    let w = written i b g in
    let q = raster-not_rejected i b g (length pixels) (length marks) l m in
    let e : r.nol ≡ i.nol = ap (λ (h : Fields). h.nol) (fields_are i b g) in
    let p : r.ppl ≡ i.ppl = ap (λ (h : Fields). h.ppl) (fields_are i b g) in
    let n : i.nol ≤ i.nol = omega arith in
    let all = lined i r (headed i g) g w in
    let numbers = numbered i r (headed i g) g w in
    let line = line_of_picture i in
    let lines = lines_of i in
    let row = row_at i in
    record {
      header = header_is i b g;
      colors = colors_are i b g;
      plotter_colors = plotter_colors_are i b g;
      answer = rw q (good_numbers r i.nol e (good_are r i.nol written_number line lines row all numbers i.nol n) (end_is r i.nol written_number line lines row all));
      marks_are =
          rw q
          (ap (λ (k : ℕ). statuses r k ++ drop k marks) e
          ∙ ap (λ (x : List ℕ). x ++ drop i.nol marks) (statuses_are r i.nol written_number line lines row all numbers i.nol n));
      pixels_are =
          rw q
          ((λ j. rows r (e j) ++ drop (e j * p j) pixels)
          ∙ ap (λ (x : List ℕ). x ++ drop (i.nol * i.ppl) pixels) (rows_are i r (headed i g) g w i.nol n));
    }

pub reads_back : AllReadBack
reads_back i room pixels marks b e = reads i pixels marks b (given i room e)
