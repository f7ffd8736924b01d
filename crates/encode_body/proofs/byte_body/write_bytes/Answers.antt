use Rattle.std.proofs.Common.{◌≡◌, sym, ◌∙◌, length, set, eq-eqb, ne_eqb}
use Rattle.units.specs.LittleEndian.{low_bytes}
use Rattle.units.proofs.Laws.LittleEndian.{length-low}
use Rattle.codec.specs.BytePixels.{byte_body}
use Rattle.encode_body.proofs.Laws.Bytes.{body_spare, body_even, body-bare, length_spare, over_spare}
use Rattle.encode_body.proofs.byte_body.write_bytes.Goals as goal
use Rattle.encode_body.proofs.byte_body.write_bytes.Goals.{else-scn-eq1-via-then-scn-eq1+else-p-eq1, else-scn-eq1-via-else-scn-eq1}

pub returns-then-p-eq1 : goal.returns-then-p-eq1
returns-then-p-eq1 c =
    let a = c.args in
    let r = a.row.now in
    let e : c.put_byte.new.out ≡ set c.narrow.new.to (length r) 0 = c.put_byte.ensures in record { result_value = rw (body_spare a.scn r c.if-scn-eq1.true (eq-eqb _ 1 c.if-p-eq1.true)) (sym (length_spare r)); out_after = rw (body_spare a.scn r c.if-scn-eq1.true (eq-eqb _ 1 c.if-p-eq1.true)) (e ∙ rw c.narrow.ensures (over_spare r a.out.now)) }

pub returns : goal.returns
returns c =
    let a = c.args in
    let r = a.row.now in
    let b : byte_body a.scn r ≡ low_bytes r = elim c.else-scn-eq1.branch [ else-scn-eq1-via-then-scn-eq1+else-p-eq1 w ↦ body_even a.scn r (ne_eqb _ 1 w.if-p-eq1.false) | else-scn-eq1-via-else-scn-eq1 w ↦ body-bare a.scn r w.if-scn-eq1.false ] in record { result_value = rw b (sym (length-low r)); out_after = rw b (c.narrow.ensures) }
