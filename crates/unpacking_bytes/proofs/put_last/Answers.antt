use Rattle.std.proofs.Common.{◌≡◌, sym, ◌∙◌, arith, length, eqb-true}
use Rattle.units.specs.Over.{zeros}
use Rattle.units.specs.Words.{words_to_bytes}
use Rattle.units.proofs.Laws.Over.{over_all, sets_over, sets_past}
use Rattle.packing.specs.Packing.{bits}
use Rattle.packing.proofs.Laws.Bits.{length-bits}
use Rattle.unpacking_bytes.proofs.put_last.Goals as goal

pub returns-then-is_empty : goal.returns-then-is_empty
returns-then-is_empty c =
    let a = c.args in
    let new = words_to_bytes (bits 16 a.w) in
    sym (sym (sets_over new a.part.now) ∙ sets_past a.part.now 0 new (omega (arith, eqb-true (length a.part.now) 0 (sym c.if-is_empty.ensures))))

pub returns : goal.returns
returns c =
    let w = c.args.w in
    let e : c.put_bits.new.part ≡ bits 16 w = c.put_bits.ensures ∙ over_all (bits 16 w) (zeros 16) (length-bits 16 w) in
    c.store_words.ensures ∙ rw e
