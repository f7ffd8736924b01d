-- Demand 3 of the bytes, from demand 3 of the pixels: the call's buffer of bytes, read as one with room for half as many pixels.
use Rattle.std.specs.Prelude.{ℕ, ◌*◌, ◌/◌, ◌^◌, ◌≤◌, ◌<◌, ◌≡◌, refl, Bool, true, false, cond, List, [], ◌∷◌, ◌++◌, get_or, take, eqb, ltb, leb}
use Rattle.std.proofs.Common.{sym, ◌∙◌, subst, arith, eq-eqb, ne_eqb, eqb-true, lt-ltb, le-ltb, ltb-true, ltb-false, le-leb, leb-false}
use Rattle.std.proofs.Math.Path.{ap}
use Rattle.std.proofs.Math.ListN.{length, drop, length-append}
use Rattle.std.proofs.lemmas.List.{length-replicate}
use Rattle.std.proofs.lemmas.List.Edits.{sets}
use Rattle.std.proofs.Math.Seq.{length-sets}
use Rattle.std.proofs.lemmas.Bool.{eqb-false, lt-leb}
use Rattle.units.specs.Counts.{word_bytes}
use Rattle.units.specs.Over.{over, zeros}
use Rattle.units.specs.Rules.{first}
use Rattle.units.specs.Words.{words_to_bytes}
use Rattle.units.proofs.Laws.Over.{sets_over}
use Rattle.layout.specs.Chain.{Raster, sheet_of, rows, statuses, good_count, end_of}
use Rattle.layout.specs.Reading.{RasterNumbers, read_numbers, rejected_raster, raster_rejection, raster_reading, pixels_after, marks_after, count_good}
use Rattle.layout.specs.PixelBytes.{bytes_rejection, bytes_reading, pixel_bytes_after, byte_marks_after}
use Rattle.layout.proofs.Laws.Chain.{length-statuses, good_most}
use Rattle.header.proofs.Laws.Accepted.{accepted}
use Rattle.units.proofs.Laws.Stores.{zero-bytes}
use Rattle.layout.proofs.Laws.PixelBytes.{half_below}
use Rattle.decode_raster.specs.Laws.Answer.{rows-bytes}
use Rattle.isolation.specs.Statement.{OneReading, TwoReadings, SameLine, buffer_rejection}
use Rattle.isolation.proofs.Laws.OneFile.{with_bytes}
use Rattle.isolation.proofs.Laws.TwoFiles.{same_sheet}
use Rattle.isolation.proofs.Laws.Law.{accepted_file, isolated}
use Rattle.answers.specs.Answer.{number_bytes, is_rejection}
use Rattle.answers.proofs.Laws.Numbers.{numbers-stored}
use Rattle.capi.specs.Calls.{raster_size}
use Rattle.capi.proofs.Laws.Reading.{rejection_from, end_within}
use Rattle.two_c_readings.specs.Call.{Outcome, called}
use Rattle.two_c_readings.specs.Statement.{byte_row, good_in, end_in, SameByteLine, OneCall, TwoCalls, slices_rejection, RejectedCall, Demand3Bytes}
use Rattle.two_c_readings.proofs.Laws.Rows.{same_number, same_numbers, same_marks, same_row, length-rows-bytes}

-- a call's outcome is that of a reading of pixels, for the scanlines of r
record Agrees (r : Raster) (c : Outcome) (a : RasterNumbers) (pixels marks : List ℕ) : Type 0 where
  result : c.result ≡ a.answer
  marks_are : c.marks ≡ marks
  row : (k : ℕ) → k < r.nol → byte_row r.ppl k c.pixels ≡ words_to_bytes (take r.ppl (drop (k * r.ppl) pixels))
  good : good_in c.answer ≡ a.good
  end : end_in c.answer ≡ a.end

module _ {r s : Raster} {c : Outcome} {a : RasterNumbers} {pixels marks : List ℕ} (g : Agrees r c a pixels marks) (o : OneReading r s a pixels marks) where
  mark : (k : ℕ) → get_or c.marks k 0 ≡ get_or marks k 0
  mark k = ap (λ (m : List ℕ). get_or m k 0) g.marks_are

  one_call : OneCall r s c
  one_call =
      record {
        own =
            λ k h e.
            let l = o.own k h e in record { status = mark k ∙ l.status; row = g.row k h ∙ ap words_to_bytes l.row };
        rest =
            λ k h e.
            let l = o.rest k h e in record { status = mark k ∙ l.status; row = g.row k h ∙ ap words_to_bytes l.row };
        blank = λ k h some. g.row k h ∙ ap words_to_bytes (o.blank k h (λ z. some (mark k ∙ z))) ∙ zero-bytes r.ppl;
        end = g.end ∙ o.end;
        is_read = rw g.result o.is_read;
        result = (
          (λ z k h. mark k ∙ o.answer.0 (sym g.result ∙ z) k h),
          (λ all. g.result ∙ o.answer.1 (λ k h. sym (mark k) ∙ all k h)),
        );
        good = g.good ∙ o.good ∙ sym (ap (λ (m : List ℕ). count_good (take r.nol m)) g.marks_are);
      }

-- A call that is not rejected has an answer slice that is long enough, and its file and buffers are not rejected.
record Accepts (f pixels marks answer : List ℕ) : Type 0 where
  long : raster_size ≤ length answer
  none : bytes_rejection f (length pixels) (length marks) ≡ 0

accepts : (f pixels marks answer : List ℕ) → is_rejection (called f pixels marks answer).result ≡ false → Accepts f pixels marks answer
unfolding bytes_reading
accepts f pixels marks answer h = go (ltb (length answer) raster_size) refl h
  where
    n : ℕ
    n = bytes_rejection f (length pixels) (length marks)

    by_number : (b : Bool) → eqb n 0 ≡ b → leb 10 (cond b (read_numbers (sheet_of f)) (rejected_raster n)).answer ≡ false → n ≡ 0
    by_number true e l = eqb-true n 0 e
    by_number false e l =
        let m : 10 ≤ n = rejection_from f (length pixels) (length marks) (eqb-false n 0 e) in
        absurd (omega (arith, leb-false 10 n l))

    go : (b : Bool) → ltb (length answer) raster_size ≡ b → leb 10 (cond b 29 (bytes_reading f pixels marks).answer) ≡ false → Accepts f pixels marks answer
    go true e l = absurd (let z : 29 < 10 = leb-false 10 29 l in omega arith)
    go false e l = record { long = ltb-false (length answer) raster_size e; none = by_number (eqb n 0) refl l }

-- The same call's outcome, part by part, and as a reading of pixels.
module _ (f bytes marks answer : List ℕ) (ok : Accepts f bytes marks answer) where
  abbrev pixels : List ℕ
  pixels = zeros (length bytes / 2)

  room : length pixels ≡ length bytes / 2
  room = length-replicate (length bytes / 2) 0

  none_rejected : raster_rejection f (length pixels) (length marks) ≡ 0
  none_rejected = sym (same_number f bytes pixels marks room) ∙ ok.none

  is_long_lem : ltb (length answer) raster_size ≡ false
  is_long_lem = le-ltb (length answer) raster_size ok.long

  numbers_are : bytes_reading f bytes marks ≡ read_numbers (sheet_of f)
  unfolding bytes_reading
  numbers_are = rw (eq-eqb (bytes_rejection f (length bytes) (length marks)) 0 ok.none)

  result_is : (called f bytes marks answer).result ≡ (read_numbers (sheet_of f)).answer
  result_is = rw is_long_lem (ap (λ (x : RasterNumbers). x.answer) numbers_are)

  one_most : (read_numbers (sheet_of f)).answer < 10
  one_most = go (eqb (good_count (sheet_of f) (sheet_of f).nol) (sheet_of f).nol)
    where
      go : (b : Bool) → cond b 0 1 < 10
      go true = omega arith
      go false = omega arith

  answer_is : (called f bytes marks answer).answer ≡ over (number_bytes (good_count (sheet_of f) (sheet_of f).nol ∷ (end_of (sheet_of f) ∷ []))) answer
  answer_is =
      rw (is_long_lem, numbers_are, lt-leb 10 (read_numbers (sheet_of f)).answer one_most)

  pixels_are : (called f bytes marks answer).pixels ≡ pixel_bytes_after f bytes marks
  pixels_are = rw is_long_lem

  marks_are : (called f bytes marks answer).marks ≡ marks_after f pixels marks
  marks_are = rw is_long_lem (same_marks f bytes pixels marks room)

  -- the two numbers, as they are read in the answer slice
  abbrev numbers : List ℕ
  numbers = good_count (sheet_of f) (sheet_of f).nol ∷ (end_of (sheet_of f) ∷ [])

  good_small : good_count (sheet_of f) (sheet_of f).nol < 2 ^ 32
  good_small =
      let a = accepted f (accepted_file f (length pixels) (length marks) none_rejected) in
      omega (arith, good_most (sheet_of f) (sheet_of f).nol, a.limits.nol_most)

  good_is : good_in (called f bytes marks answer).answer ≡ good_count (sheet_of f) (sheet_of f).nol
  good_is = ap good_in answer_is ∙ (numbers-stored numbers answer).number 0 (omega arith) good_small (omega (arith, ok.long))

  end_is : end_in (called f bytes marks answer).answer ≡ end_of (sheet_of f)
  end_is =
      ap end_in answer_is
      ∙ (numbers-stored numbers answer).number 1 (omega arith) (end_within f (length bytes) (length marks) ok.none) (omega (arith, ok.long))

  agrees : (r : Raster) → sheet_of f ≡ with_bytes r f
      → Agrees r (called f bytes marks answer) (raster_reading f pixels marks) (pixels_after f pixels marks) (marks_after f pixels marks)
  agrees r same =
      let x : read_numbers (sheet_of f) ≡ raster_reading f pixels marks = sym numbers_are ∙ same_numbers f bytes pixels marks room in
      record {
        result = result_is ∙ ap (λ (a : RasterNumbers). a.answer) x;
        marks_are = marks_are;
        row =
            λ k h.
            let lines : (sheet_of f).nol ≡ r.nol = ap (λ (y : Raster). y.nol) same in
            ap (byte_row r.ppl k) pixels_are
            ∙ subst
            (λ (y : Raster). byte_row y.ppl k (pixel_bytes_after f bytes marks) ≡ words_to_bytes (take y.ppl (drop (k * y.ppl) (pixels_after f pixels marks))))
            same (same_row f bytes pixels marks room none_rejected k (omega arith));
        good = good_is ∙ ap (λ (a : RasterNumbers). a.good) x;
        end = end_is ∙ ap (λ (a : RasterNumbers). a.end) x;
      }

  -- it leaves slices that have room for the raster
  pixels_room : word_bytes ((sheet_of f).nol * (sheet_of f).ppl) ≤ length (called f bytes marks answer).pixels
  unfolding pixel_bytes_after
  pixels_room =
      let r = sheet_of f in
      let w = words_to_bytes (rows r r.nol) in
      let rest = drop (word_bytes (r.nol * r.ppl)) bytes in
      let e : (called f bytes marks answer).pixels ≡ w ++ rest =
      pixels_are ∙ (rw (eq-eqb (bytes_rejection f (length bytes) (length marks)) 0 ok.none)) in
      omega (arith, ap length e, length-append w rest, length-rows-bytes r r.nol, rows-bytes r.nol r.ppl)

  marks_room : (sheet_of f).nol ≤ length (called f bytes marks answer).marks
  unfolding marks_after
  marks_room =
      let r = sheet_of f in
      let e : (called f bytes marks answer).marks ≡ statuses r r.nol ++ drop r.nol marks =
      marks_are ∙ (rw (eq-eqb (raster_rejection f (length pixels) (length marks)) 0 none_rejected)) in
      omega (arith, ap length e, length-append (statuses r r.nol) (drop r.nol marks), length-statuses r r.nol)

  answer_room : raster_size ≤ length (called f bytes marks answer).answer
  answer_room =
      let e : (called f bytes marks answer).answer ≡ sets answer 0 (number_bytes numbers) = answer_is ∙ sym (sets_over (number_bytes numbers) answer) in
      omega (arith, ap length e, length-sets answer 0 (number_bytes numbers), ok.long)

-- the three slices: the answer's, and then as the two buffers of a reading of pixels
module _ (r : Raster) (bytes marks answer : List ℕ) where
  slices_short : length answer < raster_size → slices_rejection r bytes marks answer ≡ 29
  slices_short h = rw (lt-ltb (length answer) raster_size h)

  slices_by_buffers : raster_size ≤ length answer → slices_rejection r bytes marks answer ≡ buffer_rejection r (zeros (length bytes / 2)) marks
  slices_by_buffers h =
      rw (
        le-ltb (length answer) raster_size h,
        half_below (length bytes) (r.nol * r.ppl),
        length-replicate {A = ℕ} (length bytes / 2) 0,
      )

  slices_enough : word_bytes (r.nol * r.ppl) ≤ length bytes → r.nol ≤ length marks → raster_size ≤ length answer → slices_rejection r bytes marks answer ≡ 0
  slices_enough p m a =
      rw (le-ltb (length answer) raster_size a, le-ltb (length bytes) (word_bytes (r.nol * r.ppl)) p, le-ltb (length marks) r.nol m)

-- a rejected call changes nothing
call_short : (g bytes marks answer : List ℕ) {n : ℕ} → length answer < raster_size → n ≡ 29 → RejectedCall n bytes marks answer (called g bytes marks answer)
call_short g bytes marks answer {n} h e =
    rw (lt-ltb (length answer) raster_size h) (record { number = sym e; pixels_stay = refl; marks_stay = refl; answer_stays = refl })

call_rejected : (g bytes marks answer : List ℕ) {n : ℕ} → raster_size ≤ length answer → n ≡ bytes_rejection g (length bytes) (length marks) → (n ≡ 0 → ⊥)
    → RejectedCall n bytes marks answer (called g bytes marks answer)
unfolding bytes_reading pixel_bytes_after byte_marks_after
call_rejected g bytes marks answer {n} h e some =
    let b = bytes_rejection g (length bytes) (length marks) in
    let z : eqb b 0 ≡ false = ne_eqb b 0 (λ q. some (e ∙ q)) in
    let m : 10 ≤ b = rejection_from g (length bytes) (length marks) (λ q. some (e ∙ q)) in
    rw (le-ltb (length answer) raster_size h, z, le-leb 10 b m) (record { number = sym e; pixels_stay = refl; marks_stay = refl; answer_stays = refl })

same_bytes_lem : {r : Raster} {c₁ c₂ : Outcome} {a₁ a₂ : RasterNumbers} {pixels₁ marks₁ pixels₂ marks₂ : List ℕ} (g₁ : Agrees r c₁ a₁ pixels₁ marks₁)
    (g₂ : Agrees r c₂ a₂ pixels₂ marks₂) (k : ℕ) → k < r.nol → SameLine r.ppl k pixels₁ marks₁ pixels₂ marks₂ → SameByteLine r.ppl k c₁ c₂
same_bytes_lem g₁ g₂ k h l =
    record {
      status = ap (λ (m : List ℕ). get_or m k 0) g₂.marks_are ∙ l.status ∙ sym (ap (λ (m : List ℕ). get_or m k 0) g₁.marks_are);
      row = g₂.row k h ∙ ap words_to_bytes l.row ∙ sym (g₁.row k h);
    }

two_calls : {r s : Raster} {c₁ c₂ : Outcome} {a₁ a₂ : RasterNumbers} {pixels₁ marks₁ pixels₂ marks₂ : List ℕ} → Agrees r c₁ a₁ pixels₁ marks₁
    → Agrees r c₂ a₂ pixels₂ marks₂ → TwoReadings r s a₁ pixels₁ marks₁ a₂ pixels₂ marks₂ → TwoCalls r s c₁ c₂
two_calls g₁ g₂ t =
    record {
      first = one_call g₁ t.first;
      second = one_call g₂ t.second;
      same_reached = t.same_reached;
      same_start = t.same_start;
      same_end = g₂.end ∙ t.same_end ∙ sym g₁.end;
      same_rollover = t.same_rollover;
      same_line = λ k h b. same_bytes_lem g₁ g₂ k h (t.same_line k h b);
      no_body = λ k h b. same_bytes_lem g₁ g₂ k h (t.no_body k h b);
    }

pub isolated_bytes : Demand3Bytes
isolated_bytes f g bytes₁ marks₁ answer₁ bytes₂ marks₂ answer₂ one taken changed =
    let ok₁ = accepts f bytes₁ marks₁ answer₁ taken in
    let none₁ = none_rejected f bytes₁ marks₁ answer₁ ok₁ in
    let pixels₂ = zeros (length bytes₂ / 2) in
    let i = isolated f g (zeros (length bytes₁ / 2)) marks₁ pixels₂ marks₂ one none₁ changed in
    let room : length pixels₂ ≡ length bytes₂ / 2 = length-replicate (length bytes₂ / 2) 0 in
    let number : bytes_rejection g (length bytes₂) (length marks₂) ≡ buffer_rejection (sheet_of f) pixels₂ marks₂ =
    same_number g bytes₂ pixels₂ marks₂ room ∙ i.rejection in
    record {
      as_much =
          λ p m a.
          slices_enough (sheet_of f) bytes₂ marks₂ answer₂ (omega (arith, pixels_room f bytes₁ marks₁ answer₁ ok₁))
          (omega (arith, marks_room f bytes₁ marks₁ answer₁ ok₁)) (omega (arith, answer_room f bytes₁ marks₁ answer₁ ok₁));
      rejected = λ some. rejected_by (ltb (length answer₂) raster_size) refl number some;
      otherwise =
          λ none.
          let long : raster_size ≤ length answer₂ = is_enough (ltb (length answer₂) raster_size) refl none in
          let z : buffer_rejection (sheet_of f) pixels₂ marks₂ ≡ 0 = sym (slices_by_buffers (sheet_of f) bytes₂ marks₂ answer₂ long) ∙ none in
          let ok₂ : Accepts g bytes₂ marks₂ answer₂ = record { long = long; none = number ∙ z } in
          two_calls (agrees f bytes₁ marks₁ answer₁ ok₁ (sheet_of f) refl)
          (agrees g bytes₂ marks₂ answer₂ ok₂ (sheet_of f) (same_sheet f g one (accepted_file f (length (zeros (length bytes₁ / 2))) (length marks₁) none₁) changed))
          (i.otherwise z);
    }
  where
    is_enough : (b : Bool) → ltb (length answer₂) raster_size ≡ b → slices_rejection (sheet_of f) bytes₂ marks₂ answer₂ ≡ 0 → raster_size ≤ length answer₂
    is_enough true e z =
        absurd (let n : 29 ≡ 0 = sym (slices_short (sheet_of f) bytes₂ marks₂ answer₂ (ltb-true (length answer₂) raster_size e)) ∙ z in omega arith)
    is_enough false e z = ltb-false (length answer₂) raster_size e

    rejected_by : (b : Bool) → ltb (length answer₂) raster_size ≡ b
        → bytes_rejection g (length bytes₂) (length marks₂) ≡ buffer_rejection (sheet_of f) (zeros (length bytes₂ / 2)) marks₂
        → (slices_rejection (sheet_of f) bytes₂ marks₂ answer₂ ≡ 0 → ⊥)
        → RejectedCall (slices_rejection (sheet_of f) bytes₂ marks₂ answer₂) bytes₂ marks₂ answer₂ (called g bytes₂ marks₂ answer₂)
    rejected_by true e number some =
        let h = ltb-true (length answer₂) raster_size e in
        call_short g bytes₂ marks₂ answer₂ h (slices_short (sheet_of f) bytes₂ marks₂ answer₂ h)
    rejected_by false e number some =
        let h = ltb-false (length answer₂) raster_size e in
        call_rejected g bytes₂ marks₂ answer₂ h (slices_by_buffers (sheet_of f) bytes₂ marks₂ answer₂ h ∙ sym number) some
