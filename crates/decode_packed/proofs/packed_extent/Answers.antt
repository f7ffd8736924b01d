use Rattle.std.proofs.Common.{◌≡◌, sym, length-take-le, arith}
use Rattle.units.specs.Counts.{word_bytes}
use Rattle.packing.specs.Packing.{packed_count}
use Rattle.std.proofs.lemmas.Grind.{common_steps}
use Rattle.decode_packed.proofs.packed_extent.Goals as goal

pub slice_bounds-packed_status-end : goal.slice_bounds-packed_status-end
slice_bounds-packed_status-end c = sym (length-take-le _ _ (omega arith))

pub returns : goal.returns
returns c =
    let a = c.args in
    let r = a.rest.now in
    let s : c.words_to_bytes-size.result.0 ≡ word_bytes (packed_count a.p) = omega arith in
    let e = length-take-le (word_bytes (packed_count a.p)) r in
    grind (arith, common_steps)
