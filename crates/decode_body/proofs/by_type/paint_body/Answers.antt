use Rattle.std.proofs.Common.{sym, ◌∙◌}
use Rattle.units.specs.Words.{words}
use Rattle.units.proofs.Laws.Over.{over_nil, over_taken}
use Rattle.codec.specs.Table.{codec_of}
use Rattle.decode_body.proofs.Laws.ByType.{no_pixels}
use Rattle.decode_body.proofs.by_type.paint_body.Goals as goal

pub returns-in-1 : goal.returns-in-1
unfolding codec_of
returns-in-1 c = rw c.in-1.is c.paint_packed.ensures

pub returns-in-2 : goal.returns-in-2
unfolding codec_of
returns-in-2 c =
    let a = c.args in
    rw c.in-2.is (c.widen.ensures ∙ sym (over_taken a.body.now a.row.now))

pub returns-in-3 : goal.returns-in-3
unfolding codec_of
returns-in-3 c =
    let a = c.args in
    rw c.in-3.is (c.load_words.ensures ∙ sym (over_taken (words a.body.now) a.row.now))

pub returns-in-9 : goal.returns-in-9
unfolding codec_of
returns-in-9 c = rw c.in-9.is c.paint_runs.ensures

pub returns-in-10 : goal.returns-in-10
unfolding codec_of
returns-in-10 c = rw c.in-10.is c.paint_pairs.ensures

pub returns-in_default : goal.returns-in_default
returns-in_default c =
    let a = c.args in
    rw (no_pixels a.dtc _ _ c.in_default.in_default-own.rest) (sym (over_nil a.row.now))
