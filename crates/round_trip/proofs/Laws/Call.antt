-- Reading back, of the two calls, from their promises.
use Rattle.std.specs.Prelude.{ℕ, ◌*◌, ◌≤◌, ◌<◌, ◌≡◌, List, length}
use Rattle.std.proofs.Common.{sym, ◌∙◌, ap}
use Rattle.header.specs.Reading.{header_reading}
use Rattle.color.specs.Color.{color_reading, plotter_reading}
use Rattle.layout.specs.Reading.{raster_reading, pixels_after, marks_after}
use Rattle.encode_header.specs.Picture.{Picture}
use Rattle.encode_raster.specs.File.{file_bytes}
use Rattle.encode_raster.specs.Writing.{writer_rejection}
use Rattle.encode_answer.specs.Sizes.{WriteNumbers}
use Rattle.encode_answer.specs.Answer.{write_numbers}
use Rattle.encode_raster.proofs.Laws.Call.{writes, begins}
use Rattle.read_back.specs.Statement.{ReadsBack}
use Rattle.read_back.proofs.Laws.Law.{reads_back}
use Rattle.round_trip.specs.declared.RoundTrip.{RoundTrip}
use Rattle.round_trip.specs.Call.{written, BothCalls, given, GivenBack}

pub given_back : (i : Picture) (out back marks : List ℕ) (r : RoundTrip) (out' back' marks' : List ℕ)
    → i.drs < 65536
    → BothCalls i out back marks r out' back' marks'
    → writer_rejection i (length out) ≡ 0
    → i.nol * i.ppl ≤ length back
    → i.nol ≤ length marks
    → GivenBack i back marks r out' back' marks'
given_back i out back marks r out' back' marks' drs c ok px mk =
    let w = c.wrote ∙ writes i (length out) ok in
    let z : (write_numbers r.written).number ≡ 0 = ap (λ (x : WriteNumbers). x.number) w in
    let s : (write_numbers r.written).size ≡ length (file_bytes i) = ap (λ (x : WriteNumbers). x.size) w in
    let f : written r out' ≡ file_bytes i = begins i out ok (write_numbers r.written).size out' s c.out_is in
    let d = c.read_is z in
    let b : ReadsBack i back marks = reads_back i (length out) back marks drs ok px mk in
    record {
      wrote = z;
      answer = d.0 ∙ ap (λ (x : List ℕ). raster_reading x back marks) f ∙ b.answer ∙ ap (λ (n : ℕ). given i n) (sym s);
      marks_are = d.1.1 ∙ ap (λ (x : List ℕ). marks_after x back marks) f ∙ b.marks_are;
      pixels_are = d.1.0 ∙ ap (λ (x : List ℕ). pixels_after x back marks) f ∙ b.pixels_are;
      header = ap header_reading f ∙ b.header;
      colors = λ v. ap (λ (x : List ℕ). color_reading x v) f ∙ b.colors v;
      plotter_colors = λ v. ap (λ (x : List ℕ). plotter_reading x v) f ∙ b.plotter_colors v;
    }
