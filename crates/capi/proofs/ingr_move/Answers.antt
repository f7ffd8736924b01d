use Rattle.std.proofs.Common.{refl, length}
use Rattle.transcode.proofs.Laws.Call.{size_most}
use Rattle.capi.proofs.Laws.Writing.{length_fits}
use Rattle.capi.proofs.ingr_move.Goals as goal

pub of_written-requires : goal.of_written-requires
of_written-requires c = length_fits c.transcode.result c.transcode.ensures.result_value (size_most c.args.file.now (length c.args.out.now) _ refl)
