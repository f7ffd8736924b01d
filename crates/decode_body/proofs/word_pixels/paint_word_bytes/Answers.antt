use Rattle.std.proofs.Common.{ℕ, ◌≤◌, min, ◌≡◌, sym, ◌∙◌, ap, List, arith, length, take, length-take-le}
use Rattle.units.specs.Counts.{word_bytes}
use Rattle.units.specs.Over.{over, zeros}
use Rattle.units.specs.Words.{word_count}
use Rattle.units.proofs.Laws.Words.{bytes_back}
use Rattle.slices.proofs.Laws.Painting.{blank_from, blank_last, blank-over}
use Rattle.decode_body.proofs.word_pixels.paint_word_bytes.Goals as goal

pub slice_bounds-copy-end : goal.slice_bounds-copy-end
slice_bounds-copy-end c =
    let a = c.args in
    sym (length-take-le _ a.body.now (omega arith))

pub returns : goal.returns
returns c =
    let a = c.args in
    let b = a.body.now in
    let p = (word_count a.row.now).0 in
    let n : c.lesser-n.result ≡ min (word_count b).0 p = omega arith in
    let end = c.words_to_bytes-end.result.0 in
    let all : end ≡ word_bytes c.lesser-n.result = omega arith in
    let size : length (take end b) ≡ end = length-take-le end b (omega arith) in
    let fits : end ≤ length a.row.now = omega arith in
    blank_last _ _ end (omega (arith, ap length c.copy.ensures)) c.clear.ensures
    ∙ ap (blank_from end) c.copy.ensures
    ∙ blank-over (take end b) a.row.now end size fits
    ∙ ap (λ (x : List ℕ). over x (zeros (length a.row.now)))
    (ap (λ (m : ℕ). take m b) all ∙ sym (bytes_back b p c.lesser-n.result n (λ i. omega (arith, c.type_inv.body i))))
