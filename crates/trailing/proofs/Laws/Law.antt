-- Bytes that follow the last scanline are ignored.
use Rattle.std.specs.Prelude.{ℕ, zero, suc, ◌*◌, ◌≤◌, ◌<◌, ◌≡◌, true, List, ◌++◌, length, get_or, drop}
use Rattle.std.proofs.Common.{sym, ◌∙◌, ap, arith, length-append}
use Rattle.std.proofs.Math.ListN.{get_or-append}
use Rattle.units.specs.Rules.{first}
use Rattle.units.proofs.Laws.Rules.{both_none, first_later}
use Rattle.fields.specs.declared.Fields.{Fields}
use Rattle.fields.specs.Fields.{fields_of}
use Rattle.header.specs.Rejections.{rules_to22, rejection_to22}
use Rattle.header.proofs.Laws.Accepted.{accepted}
use Rattle.layout.specs.Scanline.{Reading, reading_of}
use Rattle.color.specs.Color.{is_inked}
use Rattle.layout.specs.Chain.{Raster, sheet_of, from, start, reached, number_of, rows, statuses, end_of}
use Rattle.layout.specs.Reading.{RasterNumbers, buffer_rules, raster_rejection, answer_of, read_numbers}
use Rattle.layout.proofs.Laws.Chain.{start_zero, start_within, reached-zero, reached-suc, reading_reached}
use Rattle.layout.proofs.Laws.Line.{good_not-lost}
use Rattle.isolation.proofs.Laws.Buffers.{AllGood, answer_good}
use Rattle.isolation.proofs.Laws.Chained.{start_later}
use Rattle.isolation.proofs.Laws.OneFile.{pixels_are, marks_are, answer_is}
use Rattle.isolation.proofs.Laws.TwoFiles.{sheet_by_fields}
use Rattle.isolation.proofs.Laws.Law.{accepted_file}
use Rattle.trailing.specs.Statement.{SameUpTo, NoneLost, TrailingIgnored, AppendedIgnored, GoodNoneLost}
use Rattle.trailing.proofs.Laws.Front.{front_by_byte}
use Rattle.trailing.proofs.Laws.Header.{same_header, also_accepted, same_reading}
use Rattle.trailing.proofs.Laws.Colors.{same_color, same_plotter}
use Rattle.trailing.proofs.Laws.Chain.{SameLines, same_lines}

-- a file that is not rejected ends within itself
end_within : (f : List ℕ) → rejection_to22 f ≡ 0 → end_of (sheet_of f) ≤ length f
end_within f ok = start_within (sheet_of f) (accepted f ok).inside (sheet_of f).nol

-- every scanline of the one is there in the other
lines_alike : (f g : List ℕ) → rejection_to22 f ≡ 0 → NoneLost f → SameUpTo (end_of (sheet_of f)) f g → SameLines (sheet_of f) g (sheet_of f).nol
lines_alike f g ok none front =
    same_lines (sheet_of f) g (accepted f ok).inside (sheet_of f).nol none
    (front_by_byte g f (end_of (sheet_of f)) (omega (arith, front.long)) (end_within f ok) (λ i h. front.same i (omega arith)))

-- buffers with room for the one raster have room for the other
also_room : (f g : List ℕ) (room lines : ℕ) → raster_rejection f room lines ≡ 0 → rejection_to22 g ≡ 0 → fields_of g ≡ fields_of f
    → raster_rejection g room lines ≡ 0
unfolding raster_rejection rejection_to22
also_room f g room lines ok taken fields =
    first_later (rules_to22 g) (buffer_rules (sheet_of g).ppl (sheet_of g).nol room lines) tt taken
    ∙ ap (λ (x : Fields). first (buffer_rules x.ppl x.nol room lines)) fields
    ∙ (both_none (rules_to22 f) (buffer_rules (sheet_of f).ppl (sheet_of f).nol room lines) tt ok).1

-- the raster data start before the end
starts_before : (f : List ℕ) → (sheet_of f).data_start ≤ end_of (sheet_of f)
starts_before f = omega (arith, start_zero (sheet_of f), start_later (sheet_of f) 0 (sheet_of f).nol (omega arith))

pub trailing_ignored : TrailingIgnored
trailing_ignored f g pixels marks ok none front short =
    let r = sheet_of f in
    let file_ok = accepted_file f (length pixels) (length marks) ok in
    let lines = lines_alike f g file_ok none front in
    let before = starts_before f in
    let same : (i : ℕ) → i < r.data_start → get_or g i 0 ≡ get_or f i 0 = λ i h. front.same i (omega arith) in
    let also-ok = also_accepted f g file_ok same (omega (arith, front.long)) short in
    let fields = same_header f g file_ok same in
    let table : (i : ℕ) → 768 ≤ i → i < r.data_start → get_or g i 0 ≡ get_or f i 0 = λ i low. same i in
    let ctv = ap (λ (h : Fields). h.ctv) fields in
    let cte = ap (λ (h : Fields). h.cte) fields in
    let also-read = also_room f g (length pixels) (length marks) ok also-ok fields in
    let sheet = sheet_by_fields f g fields in
    record {
      header = same_reading f g file_ok same also-ok;
      colors = λ v. same_color f g file_ok also-ok table ctv cte v (ap (λ (h : Fields). is_inked h.dtc h.ctv) fields);
      plotter_colors = same_plotter f g file_ok also-ok table ctv cte;
      accepted = also-read;
      answer =
          answer_is g pixels marks also-read
          ∙ ap read_numbers sheet
          ∙ (λ i. record { answer = answer_of (lines.same_good i) r.nol; good = lines.same_good i; end = lines.starts i })
          ∙ sym (answer_is f pixels marks ok);
      pixels_are =
          pixels_are g pixels marks also-read
          ∙ ap (λ (s : Raster). rows s s.nol ++ drop (s.nol * s.ppl) pixels) sheet
          ∙ ap (λ (l : List ℕ). l ++ drop (r.nol * r.ppl) pixels) lines.same_rows
          ∙ sym (pixels_are f pixels marks ok);
      marks_are =
          marks_are g pixels marks also-read
          ∙ ap (λ (s : Raster). statuses s s.nol ++ drop s.nol marks) sheet
          ∙ ap (λ (l : List ℕ). l ++ drop r.nol marks) lines.same_statuses
          ∙ sym (marks_are f pixels marks ok);
    }

pub appended_ignored : AppendedIgnored
appended_ignored f more pixels marks ok none short =
    let e = end_within f (accepted_file f (length pixels) (length marks) ok) in
    trailing_ignored f (f ++ more) pixels marks ok none
    (record {
      long = omega (arith, length-append f more);
      same = λ i h. get_or-append f more 0 i (omega arith);
    })
    short

-- where every scanline is good all are reached
all_reached : (r : Raster) (n : ℕ) → AllGood r n → reached r n ≡ true
all_reached r zero good = reached-zero r
all_reached r (suc n) good =
    let q : reached r n ≡ true = all_reached r n (λ k l. good k (omega arith)) in
    let z : (reading_of r.scn r.data_type r.ppl (number_of r n) (from r (start r n))).status ≡ 0 =
    sym (ap (λ (x : Reading). x.status) (reading_reached r n q)) ∙ good n (omega arith) in
    reached-suc r n ∙ rw (q, good_not-lost r.scn r.data_type r.ppl (from r (start r n)) (number_of r n) z)

pub good_none-lost : GoodNoneLost
good_none-lost f pixels marks ok good =
    all_reached (sheet_of f) (sheet_of f).nol
    ((answer_good (sheet_of f) (sheet_of f).nol).0 (sym (ap (λ (x : RasterNumbers). x.answer) (answer_is f pixels marks ok)) ∙ good))
