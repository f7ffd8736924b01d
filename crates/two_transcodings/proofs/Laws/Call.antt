-- The laws of the two calls, from their promises.
use Rattle.std.specs.Prelude.{ℕ, ◌*◌, ◌≤◌, ◌≡◌, List, ◌++◌, length, drop}
use Rattle.std.proofs.Common.{sym, ◌∙◌, ap, arith, eq-eqb}
use Rattle.header.specs.Reading.{header_reading}
use Rattle.layout.specs.Chain.{sheet_of}
use Rattle.layout.specs.Reading.{RasterNumbers, raster_reading, pixels_after, marks_after}
use Rattle.encode_answer.specs.Answer.{write_numbers}
use Rattle.encode_answer.specs.Sizes.{WriteNumbers}
use Rattle.transcode.specs.File.{transcoded}
use Rattle.transcode.specs.Transcoding.{transcode_rejection, transcoding, out_transcoded}
use Rattle.transcode.proofs.Laws.Call.{number_is, size_is, size_fits, length_after, begins}
use Rattle.there_and_back.specs.Statement.{IsBytes, BodiesAsWritten, NothingFollows}
use Rattle.there_and_back.proofs.Laws.Law.{comes_back, reads_as_before}
use Rattle.two_transcodings.specs.declared.TwoMoves.{TwoMoves}
use Rattle.two_transcodings.specs.declared.MovedReading.{MovedReading}
use Rattle.two_transcodings.specs.Call.{written, BothMoves, IsBack, MovedAndRead, SameReading}

-- what a move wrote lies within its output
pub fits : (f out : List ℕ) (a : WriteNumbers) {out' : List ℕ} → a ≡ transcoding f (length out) → a.number ≡ 0 → out' ≡ out_transcoded f out → a.size ≤ length out'
fits f out a e z o = omega (arith, size_fits f (length out) a e z, ap length o, length_after f out)

-- what a move that is not rejected leaves
after_move : (f out : List ℕ) → transcode_rejection f (length out) ≡ 0 → out_transcoded f out ≡ transcoded f ++ drop (length (transcoded f)) out
unfolding out_transcoded
after_move f out ok = rw (eq-eqb (transcode_rejection f (length out)) 0 ok)

module _ (f between out : List ℕ) (r : TwoMoves) (between' out' : List ℕ) (c : BothMoves f between out r between' out')
    (there : (write_numbers r.there).number ≡ 0) (back : (write_numbers r.back).number ≡ 0) where
  first_ok : transcode_rejection f (length between) ≡ 0
  first_ok = sym (number_is f (length between) (write_numbers r.there) c.there_is) ∙ there

  file_is : written r.there between' ≡ transcoded f
  file_is =
      begins f between first_ok (write_numbers r.there).size between' (size_is f (length between) (write_numbers r.there) c.there_is there) c.between_is

  second : (transcode_rejection (transcoded f) (length out) ≡ 0) × ((write_numbers r.back).size ≡ length (transcoded (transcoded f)))
  second =
      let x = (c.back_is there).0 ∙ ap (λ (g : List ℕ). transcoding g (length out)) file_is in
      (sym (number_is (transcoded f) (length out) (write_numbers r.back) x) ∙ back, size_is (transcoded f) (length out) (write_numbers r.back) x back)

  is_back : transcoded (transcoded f) ≡ f → IsBack f out r out'
  is_back e =
      record {
        size = second.1 ∙ ap length e;
        bytes =
            (c.back_is there).1
            ∙ ap (λ (g : List ℕ). out_transcoded g out) file_is
            ∙ after_move (transcoded f) out second.0
            ∙ ap (λ (g : List ℕ). g ++ drop (length g) out) e;
      }

  pub packed_back : IsBytes f → NothingFollows f → (sheet_of f).data_type ≡ 1 → IsBack f out r out'
  packed_back below ends one = is_back (comes_back.packed f (length between) below first_ok ends one)

  pub runs_back : IsBytes f → NothingFollows f → (sheet_of f).data_type ≡ 9 → BodiesAsWritten (sheet_of f) → IsBack f out r out'
  runs_back below ends nine bodies = is_back (comes_back.runs f (length between) below first_ok ends nine bodies)

pub same_reading : (f out pixels marks : List ℕ) (r : MovedReading) (out' pixels' marks' : List ℕ)
    → MovedAndRead f out pixels marks r out' pixels' marks'
    → (write_numbers r.moved).number ≡ 0
    → (sheet_of f).nol * (sheet_of f).ppl ≤ length pixels
    → (sheet_of f).nol ≤ length marks
    → SameReading f pixels marks r out' pixels' marks'
same_reading f out pixels marks r out' pixels' marks' c done px mk =
    let ok = sym (number_is f (length out) (write_numbers r.moved) c.moved_is) ∙ done in
    let s = size_is f (length out) (write_numbers r.moved) c.moved_is done in
    let e : written r.moved out' ≡ transcoded f = begins f out ok (write_numbers r.moved).size out' s c.out_is in
    let d = c.read_is done in
    let b = reads_as_before f pixels marks (length out) ok px mk in
    let numbers : ℕ → RasterNumbers = λ n. record { answer = 0; good = (sheet_of f).nol; end = n } in
    record {
      answer = d.0 ∙ ap (λ (g : List ℕ). raster_reading g pixels marks) e ∙ b.answer ∙ ap numbers (sym s);
      pixels_are = d.1.0 ∙ ap (λ (g : List ℕ). pixels_after g pixels marks) e ∙ b.pixels_are;
      marks_are = d.1.1 ∙ ap (λ (g : List ℕ). marks_after g pixels marks) e ∙ b.marks_are;
      header = ap header_reading e ∙ b.header;
    }
