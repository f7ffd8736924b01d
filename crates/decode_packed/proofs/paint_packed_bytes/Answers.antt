use Rattle.std.proofs.Common.{sym, arith, length-take-le}
use Rattle.units.specs.Words.{words, word_count}
use Rattle.packing.specs.Packing.{word_bits}
use Rattle.decode_packed.proofs.Laws.Clearing.{cleared, length-pixels}
use Rattle.decode_packed.proofs.paint_packed_bytes.Goals as goal

pub slice_bounds-unpack_bytes-end-2 : goal.slice_bounds-unpack_bytes-end-2
slice_bounds-unpack_bytes-end-2 c = sym (length-take-le _ _ (omega arith))

pub returns : goal.returns
returns c =
    let a = c.args in
    let b = a.body.now in
    let row = a.row.now in
    cleared (word_bits (words b)) row c.unpack_bytes.new.row (word_count row).0 c.pixels_held.result c.words_to_bytes-end.result.0
    (omega (arith, length-pixels b)) (omega (arith, c)) (omega (arith, c)) c.unpack_bytes.ensures _ c.clear.ensures
