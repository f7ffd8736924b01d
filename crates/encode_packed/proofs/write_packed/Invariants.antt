use Rattle.std.proofs.Common.{length, ◌*◌, ◌≡◌}
use lib.Seq.{sets}
use Rattle.units.specs.Over.{over}
use Rattle.packing.proofs.Laws.Writing.{body_from}
use Rattle.codec.specs.PackedPixels.{packed_body}
use Rattle.encode_packed.proofs.write_packed.Given as goal

abbrev pub invariant-loop-i : goal.invariant-loop-i
invariant-loop-i l = (length l.out ≡ length l.initial.out) × (sets l.out (2 * l.i) (body_from l.row (16 * l.i)) ≡ over (packed_body l.row) l.initial.out)
