-- A sheet of type 1 comes back from type 9 byte for byte, and one of type 9 with the writer's bodies from type 1; and the sheet in between
-- reads as it did.
use Prim.Native.Nat.{ℕ, zero, suc, ◌+◌, ◌-◌, ◌*◌, ◌≤◌, ◌<◌}
use Rattle.std.specs.Prelude.{◌≡◌, length}
use Rattle.std.proofs.Math.Path.{refl, sym, ap}
use Rattle.std.proofs.Common.{◌∙◌, ap₂, arith, le-ltb, eq-eqb, take_at, get_or-take}
use mathlib.Core.List.{List, ◌++◌}
use Rattle.std.proofs.Math.Numerals.{add-one}
use Rattle.std.proofs.Math.ListN.{take, drop, length-drop, take-append-drop, replicate-append-replicate}
use Rattle.std.proofs.Math.Seq.{sets, take_all}
use Rattle.units.specs.Over.{zeros}
use Rattle.units.specs.LittleEndian.{u16_at}
use Rattle.units.specs.Words.{two_bytes}
use Rattle.units.proofs.Laws.Rules.{first_later}
use Rattle.header.specs.Rejections.{rules_to22, rejection_to22}
use Rattle.header.specs.Reading.{field_numbers}
use Rattle.header.proofs.Laws.Accepted.{accepted}
use Rattle.layout.specs.Chain.{Raster, sheet_of, start, number_of, reading_at, rows, statuses, good_count}
use Rattle.layout.specs.Reading.{RasterNumbers, buffer_rules, raster_rejection, answer_of, read_numbers, raster_reading, pixels_after, marks_after}
use Rattle.layout.proofs.Laws.Lined.{Lined, reads, statuses_are, good_are, end_is}
use Rattle.transcode_parts.specs.Headers.{other_type}
use Rattle.transcode.specs.File.{carried_header, new_line_at, new_lines, transcoded}
use Rattle.there_and_back.specs.Statement.{IsBytes, BodiesAsWritten, NothingFollows, ComesBack, ReadsAsBefore, AllReadAsBefore}
use Rattle.there_and_back.proofs.Laws.Chain.{other_other, packed_written, lined, numbered, lines_again}
use Rattle.there_and_back.proofs.Laws.Given.{Given, given, accepted_too, moved, same_start, same_lines}
use Rattle.there_and_back.proofs.Laws.Header.{length_carried, is_split, fields_are, color-kept, plotter_color-kept}
use Rattle.there_and_back.proofs.Laws.Line.{bytes_take}
use Rattle.there_and_back.proofs.Laws.Placing.{word_again, word_same}

module _ (f : List ℕ) (g : Given f) where
  abbrev old : Raster
  old = sheet_of f

  abbrev new : Raster
  new = sheet_of (transcoded f)

  abbrev size : ℕ
  size = old.data_start

  front_is : take size (transcoded f) ≡ carried_header f
  front_is =
      ap (take size) (is_split f g.file g.movable.two)
      ∙ take_at (carried_header f) (new_lines old old.nol) size (length_carried f g.file g.movable.two)

  -- the header, with the data type that it had
  header-again : IsBytes f → carried_header (transcoded f) ≡ take size f
  unfolding u16_at
  header-again below =
      let m = moved f g in
      let t = old.data_type in
      let deep = (accepted f g.file).blocks in
      let type : t ≡ u16_at (take size f) 4 =
      sym (ap₂ (λ (a b : ℕ). a + 256 * b) (get_or-take size f 4 0 (omega arith)) (get_or-take size f 5 0 (omega arith))) in
      let start_is : new.data_start ≡ size = same_start f g in
      let type-is : other_type new.data_type ≡ t = ap other_type m.type ∙ other_other t g.movable.two in
      (λ j. sets (take (start_is j) (transcoded f)) 4 (two_bytes (type-is j)))
      ∙ ap (λ (l : List ℕ). sets l 4 (two_bytes t)) front_is
      ∙ word_again (take size f) 4 (other_type t) t
      ∙ word_same (take size f) 4 t type (bytes_take size f below)

  back : IsBytes f → NothingFollows f → BodiesAsWritten old → transcoded (transcoded f) ≡ f
  unfolding transcoded
  back below ends written =
      let lines : new_lines new old.nol ≡ drop size f =
      lines_again old g.movable new (moved f g) below written old.nol (omega arith)
      ∙ take_all (start old old.nol - size) (drop size f) (omega (arith, length-drop size f)) in
      (λ j. header-again below j ++ new_lines new (same_lines f g j))
      ∙ ap (λ (l : List ℕ). take size f ++ l) lines
      ∙ take-append-drop size f

  -- the reading of the new sheet
  all_lined : Lined new old.nol (number_of old) (new_line_at old) (new_lines old) (λ k. (reading_at old k).row)
  all_lined = lined old g.movable new (moved f g)

  all_numbered : new.scn ≡ 1 → (k : ℕ) → k < old.nol → number_of new k ≡ number_of old k
  all_numbered = numbered old g.movable new (moved f g)

  rows_same : (n : ℕ) → n ≤ old.nol → rows new n ≡ rows old n
  unfolding rows
  rows_same zero h = refl
  rows_same (suc n) h =
      rw (rows_same n (omega arith), (reads new old.nol (number_of old) (new_line_at old) (new_lines old) (λ k. (reading_at old k).row) all_lined all_numbered n h).row_is)

  statuses-old : (n : ℕ) → n ≤ old.nol → statuses old n ≡ zeros n
  unfolding statuses
  statuses-old zero h = refl
  statuses-old (suc n) h = rw (statuses-old n (omega arith), g.movable.good n h, replicate-append-replicate {A = ℕ} n 1 0, add-one n)

  numbers_are : read_numbers new ≡ record { answer = 0; good = old.nol; end = length (transcoded f) }
  numbers_are =
      let n = old.nol in
      let line = new_line_at old in
      let lines = new_lines old in
      let row : ℕ → List ℕ = λ k. (reading_at old k).row in
      ap numbers (same_lines f g)
      ∙ (λ j. record {
        answer = answer_of (good_are new n (number_of old) line lines row all_lined all_numbered n (omega arith) j) n;
        good = good_are new n (number_of old) line lines row all_lined all_numbered n (omega arith) j;
        end = end_is new n (number_of old) line lines row all_lined j;
      })
      ∙ rw (eq-eqb n n refl)
    where
      numbers : ℕ → RasterNumbers
      numbers m = record { answer = answer_of (good_count new m) m; good = good_count new m; end = start new m }

-- a file with room for its raster
room_enough : (f pixels marks : List ℕ) → rejection_to22 f ≡ 0 → (sheet_of f).nol * (sheet_of f).ppl ≤ length pixels → (sheet_of f).nol ≤ length marks
    → raster_rejection f (length pixels) (length marks) ≡ 0
unfolding raster_rejection rejection_to22
room_enough f pixels marks ok l m =
    let r = sheet_of f in
    first_later (rules_to22 f) (buffer_rules r.ppl r.nol (length pixels) (length marks)) tt ok
    ∙ simp (le-ltb (length pixels) (r.nol * r.ppl) l, le-ltb (length marks) r.nol m)

reads_so : (f pixels marks : List ℕ) → Given f → (sheet_of f).nol * (sheet_of f).ppl ≤ length pixels → (sheet_of f).nol ≤ length marks
    → ReadsAsBefore f pixels marks
unfolding raster_reading pixels_after marks_after
reads_so f pixels marks g l m =
    let r = sheet_of f in
    let s = sheet_of (transcoded f) in
    let fields = fields_are f g.file g.movable.two in
    let lines : s.nol ≡ r.nol = same_lines f g in
    let width : s.ppl ≡ r.ppl = (moved f g).ppl in
    let same : s.nol * s.ppl ≡ r.nol * r.ppl = λ j. lines j * width j in
    let a = room_enough f pixels marks g.file l m in
    let b = room_enough (transcoded f) pixels marks (accepted_too f g) (omega arith) (omega arith) in
    record {
      header = rw (accepted_too f g, g.file) (ap field_numbers fields);
      colors = color-kept f g.file g.movable.two (accepted_too f g);
      plotter_colors = plotter_color-kept f g.file g.movable.two (accepted_too f g);
      answer = rw b (numbers_are f g);
      marks_are =
          rw (a, b)
          (ap (λ (n : ℕ). statuses s n ++ drop n marks) lines
          ∙ ap (λ (x : List ℕ). x ++ drop r.nol marks)
          (statuses_are s r.nol (number_of r) (new_line_at r) (new_lines r) (λ k. (reading_at r k).row) (all_lined f g) (all_numbered f g) r.nol (omega arith)
          ∙ sym (statuses-old f g r.nol (omega arith))));
      pixels_are =
          rw (a, b)
          ((λ j. rows s (lines j) ++ drop (same j) pixels)
          ∙ ap (λ (x : List ℕ). x ++ drop (r.nol * r.ppl) pixels) (rows_same f g r.nol (omega arith)));
    }

pub reads_as_before : AllReadAsBefore
reads_as_before f pixels marks room e = reads_so f pixels marks (given f room e)

pub comes_back : ComesBack
comes_back =
    record {
      packed =
          λ f room below ok ends one.
          let g = given f room ok in
          back f g below ends (packed_written (sheet_of f) g.movable below one);
      runs = λ f room below ok ends nine written. back f (given f room ok) below ends written;
    }
