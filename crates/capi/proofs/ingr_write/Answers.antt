use Rattle.std.proofs.Common.{refl, length}
use Rattle.encode_raster.proofs.Laws.Call.{size_most}
use Rattle.capi.proofs.Laws.Writing.{length_fits}
use Rattle.capi.proofs.ingr_write.Goals as goal

pub of_written-requires : goal.of_written-requires
of_written-requires c = length_fits c.write_raster-written.result c.write_raster-written.ensures.result_value (size_most _ (length c.args.out.now) _ refl)
