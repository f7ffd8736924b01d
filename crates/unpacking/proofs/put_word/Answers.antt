use Rattle.std.proofs.Common.{ℕ, ◌+◌, ◌≡◌, sym, ◌∙◌, ap, List, ◌++◌, arith, length, get_or}
use lib.ListN.{length-map}
use Rattle.packing.specs.Weights.{powers, picked}
use Rattle.packing.proofs.Laws.Weights.{word_picked}
use Rattle.unpacking.proofs.Laws.Unpacking.{both_put}
use Rattle.unpacking.proofs.put_word.Goals as goal

pub returns : goal.returns
unfolding powers
returns c =
    let b = c.args.body.now in
    let i = c.args.i in
    let w = c.args.weights.now in
    let l : length c.put_byte.new.part ≡ 8 = ap length c.put_byte.ensures ∙ length-map w _ ∙ ap length c.requires.weights_value in
    both_put c.args.part.now c.put_byte.new.part c.put_byte-2.new.part 8 l
    ∙ (λ j. c.put_byte.ensures j ++ c.put_byte-2.ensures j)
    ∙ ap (λ (ws : List ℕ). picked (get_or b (i + 1) 0) ws ++ picked (get_or b i 0) ws) c.requires.weights_value
    ∙ sym (word_picked b i (omega (arith, c.type_inv.body i)))
