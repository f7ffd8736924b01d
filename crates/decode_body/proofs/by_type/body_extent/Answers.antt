use Rattle.std.proofs.Common.{sym}
use Rattle.codec.specs.Table.{codec_of}
use Rattle.decode_body.proofs.Laws.ByType.{no_extent}
use Rattle.decode_body.proofs.by_type.body_extent.Goals as goal

pub returns-in-1 : goal.returns-in-1
unfolding codec_of
returns-in-1 c = rw c.in-1.is c.packed_extent.ensures

pub returns-in-2 : goal.returns-in-2
unfolding codec_of
returns-in-2 c = rw c.in-2.is c.bytes_extent.ensures

pub returns-in-3 : goal.returns-in-3
unfolding codec_of
returns-in-3 c = rw c.in-3.is c.words_extent.ensures

pub returns-in-9 : goal.returns-in-9
unfolding codec_of
returns-in-9 c = rw c.in-9.is c.runs_extent.ensures

pub returns-in-10 : goal.returns-in-10
unfolding codec_of
returns-in-10 c = rw c.in-10.is c.pairs_extent.ensures

pub returns-in_default : goal.returns-in_default
returns-in_default c = sym (no_extent _ _ _ c.in_default.in_default-own.rest)
