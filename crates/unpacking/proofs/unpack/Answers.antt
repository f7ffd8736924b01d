use Rattle.std.proofs.Common.{ℕ, ◌+◌, ◌*◌, ◌/◌, ◌≡◌, sym, ◌∙◌, ap, List, ◌++◌, length, drop, length-drop, arith}
use Rattle.units.specs.LittleEndian.{u16_at}
use Rattle.units.specs.Words.{words}
use Rattle.units.proofs.Laws.Over.{sets_over}
use Rattle.packing.specs.Packing.{bits, word_bits}
use Rattle.packing.proofs.Laws.Bits.{length-bits}
use Rattle.packing.proofs.Laws.Weights.{pixels_next}
use Rattle.unpacking.proofs.Laws.Unpacking.{word_next, word_last, length-pixels}
use Rattle.unpacking.proofs.unpack.Goals as goal

pub loop-k-init : goal.loop-k-init
loop-k-init c = sets_over _ _

pub loop-k-preserved : goal.loop-k-preserved
loop-k-preserved c =
    let l = c.loop-k in
    let b = c.args.body.now in
    let at = 16 * l.k in
    let i = 2 * l.k in
    let part = c.put_word.new.part in
    let next = word_bits (words (drop (i + 2) b)) in
    let there : c.words_to_bytes-i.result.0 ≡ i = omega (arith, c.words_to_bytes-i.ensures) in
    let put : part ≡ bits 16 (u16_at b i) = c.put_word.ensures ∙ ap (λ (j : ℕ). bits 16 (u16_at b j)) there in
    let size : length part ≡ 16 = ap length put ∙ length-bits 16 (u16_at b i) in
    let to : 16 * (l.k + 1) ≡ at + 16 = omega arith in
    let from : 2 * (l.k + 1) ≡ i + 2 = omega arith in
    let more = pixels_next b i (omega arith) ∙ ap (λ (r : List ℕ). r ++ next) (sym put) in
    rw (to, from) (word_next l.row (word_bits (words (drop i b))) part next at (at + 16) more (omega arith) (omega arith) ∙ l.invariant)

pub returns : goal.returns
returns c =
    let l = c.loop-k in
    let b = c.args.body.now in
    let n = c.pixels_held-n.result in
    let at = 16 * (n / 16) in
    let i = 2 * (n / 16) in
    let rest = word_bits (words (drop i b)) in
    let new = bits 16 (u16_at b i) in
    let all : l.k ≡ n / 16 = omega arith in
    let last : c.words_to_bytes-last.result.0 ≡ i = omega (arith, c.words_to_bytes-last.ensures) in
    word_last l.row rest new (word_bits (words (drop (i + 2) b))) _ at n (omega arith)
    (omega (arith, length-pixels (drop i b), length-drop i b)) (omega (arith, length-bits 16 (u16_at b i)))
    (λ g. pixels_next b i (omega arith)) (c.put_bits.ensures ∙ (rw (c.u16_at.ensures, last)))
    ∙ (rw all at l.invariant)
