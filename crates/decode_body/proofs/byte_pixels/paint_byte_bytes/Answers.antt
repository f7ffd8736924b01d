use Rattle.std.proofs.Common.{ℕ, ◌≤◌, ◌≡◌, sym, ◌∙◌, ap, List, arith, length, take, length-take-le}
use Rattle.units.specs.Over.{over, zeros}
use Rattle.units.specs.Words.{word_count, words_to_bytes}
use Rattle.units.proofs.Laws.Over.{take_least}
use Rattle.units.proofs.Laws.Stores.{length-bytes}
use Rattle.slices.proofs.Laws.Painting.{blank_from, blank_last, blank-over}
use Rattle.decode_body.proofs.byte_pixels.paint_byte_bytes.Goals as goal

pub slice_bounds-widen_words-end : goal.slice_bounds-widen_words-end
slice_bounds-widen_words-end c =
    let a = c.args in
    sym (length-take-le _ a.body.now (omega arith))

pub returns : goal.returns
returns c =
    let a = c.args in
    let new = take c.lesser-n.result a.body.now in
    let end = c.words_to_bytes-end.result.0 in
    let n : length new ≡ c.lesser-n.result = length-take-le c.lesser-n.result a.body.now (omega arith) in
    let size : length (words_to_bytes new) ≡ end = omega (arith, length-bytes new) in
    let fits : end ≤ length a.row.now = omega arith in
    blank_last _ _ end (omega (arith, ap length c.widen_words.ensures)) c.clear.ensures
    ∙ ap (blank_from end) c.widen_words.ensures
    ∙ blank-over (words_to_bytes new) a.row.now end size fits
    ∙ ap (λ (x : List ℕ). over (words_to_bytes x) (zeros (length a.row.now))) (take_least a.body.now (word_count a.row.now).0 c.lesser-n.result (omega arith))
