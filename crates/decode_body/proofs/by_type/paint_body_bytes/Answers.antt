use Rattle.std.proofs.Common.{sym, ◌∙◌, length}
use Rattle.units.specs.Over.{zeros}
use Rattle.units.specs.Words.{words_to_bytes}
use Rattle.units.proofs.Laws.Over.{over_nil}
use Rattle.codec.specs.Table.{codec_of}
use Rattle.decode_body.proofs.Laws.ByType.{no_pixels}
use Rattle.decode_body.proofs.by_type.paint_body_bytes.Goals as goal

pub returns-in-1 : goal.returns-in-1
unfolding codec_of
returns-in-1 c = rw c.in-1.is c.paint_packed_bytes.ensures

pub returns-in-2 : goal.returns-in-2
unfolding codec_of
returns-in-2 c = rw c.in-2.is c.paint_byte_bytes.ensures

pub returns-in-3 : goal.returns-in-3
unfolding codec_of
returns-in-3 c = rw c.in-3.is c.paint_word_bytes.ensures

pub returns-in-9 : goal.returns-in-9
unfolding codec_of
returns-in-9 c = rw c.in-9.is c.paint_run_bytes.ensures

pub returns-in-10 : goal.returns-in-10
unfolding codec_of
returns-in-10 c = rw c.in-10.is c.paint_pair_bytes.ensures

pub returns-in_default : goal.returns-in_default
unfolding words_to_bytes
returns-in_default c =
    let a = c.args in
    rw (no_pixels a.dtc _ _ c.in_default.in_default-own.rest) (c.clear.ensures ∙ sym (over_nil (zeros (length a.row.now))))
