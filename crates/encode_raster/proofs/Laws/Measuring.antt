-- The loop that measures the scanlines: what holds before scanline k, from turn to turn and at its end.
use Rattle.std.specs.Prelude.{◌≡◌, ℕ, ◌+◌, ◌^◌, ◌<◌, ◌≤◌, Bool, false, ◌||◌, length, nat_lt, refl}
use Rattle.std.proofs.Common.{zero-le, sym, ◌∙◌, ap, add-one, arith}
use Rattle.std.proofs.Math.Path.{subst⁻¹}
use Rattle.units.specs.Counts.{n_bytes, words_of_bytes}
use Rattle.codec.specs.Table.{body_bytes}
use Rattle.limits.specs.Limits.{most_pixels, most_lines}
use Rattle.encode_header.specs.Picture.{Picture, row_at}
use Rattle.encode_raster.specs.File.{lines_of}
use Rattle.encode_raster.specs.Writing.{any_long}
use Rattle.encode_answer.specs.Sizes.{most_words}
use Rattle.encode_raster.specs.Laws.Answer.{head_size, Measured}
use Rattle.encode_raster.proofs.Laws.Bounds.{length_next, lines_most}

pub record MeasuredAt (i : Picture) (size : ℕ) (long : Bool) (k : ℕ) : Type 0 where
  pub low : k ≤ i.nol
  pub size_is : size ≡ length (lines_of i k)
  pub long_is : long ≡ any_long i k

pub measure_first : (i : Picture) → MeasuredAt i 0 false 0
unfolding lines_of any_long
measure_first i = record { low = zero-le; size_is = refl; long_is = refl }

pub measure_next : (i : Picture) (size : ℕ) (long : Bool) (k : ℕ) → MeasuredAt i size long k → k < i.nol
    → {head body words : ℕ} {long' : Bool} → head ≡ head_size i.scn
    → body ≡ length (body_bytes i.dtc i.scn (row_at i k))
    → words ≡ (words_of_bytes (n_bytes body)).0 → long' ≡ (long || nat_lt most_words.0 words)
    → MeasuredAt i (size + (head + body)) long' (k + 1)
unfolding any_long
measure_next i size long k now more {head} {body} {words} {long'} h b w l =
    subst⁻¹ (λ (n : ℕ). MeasuredAt i (size + (head + body)) long' n) (add-one k)
    (record {
      low = more;
      size_is = (λ j. now.size_is j + (h j + b j)) ∙ sym (length_next i k);
      long_is = l ∙ (λ j. now.long_is j || nat_lt most_words.0 (w j)) ∙ ap (λ (n : ℕ). any_long i k || nat_lt most_words.0 (words_of_bytes (n_bytes n)).0) b;
    })

-- the sum fits
pub measure_fits : (i : Picture) (size : ℕ) (long : Bool) (k : ℕ) → MeasuredAt i size long k → k < i.nol → i.ppl ≤ most_pixels → i.nol ≤ most_lines
    → {head body : ℕ} → head ≡ head_size i.scn
    → body ≡ length (body_bytes i.dtc i.scn (row_at i k))
    → size + (head + body) < 2 ^ 64
measure_fits i size long k now more p n {head} {body} h b =
    let m = measure_next i size long k now more h b refl refl in
    omega (arith, m.size_is, lines_most i p (k + 1))

pub measure_done : (i : Picture) (n size : ℕ) (long : Bool) (k : ℕ) → MeasuredAt i size long k → k ≡ n
    → Measured i n (record { size = n_bytes size; long = long })
measure_done i n size long k now e =
    record {
      size = now.size_is ∙ ap (λ (m : ℕ). length (lines_of i m)) e;
      long = now.long_is ∙ ap (λ (m : ℕ). any_long i m) e;
    }
