use Rattle.capi.proofs.Laws.Reading.{end_fits}
use Rattle.capi.proofs.ingr_raster.Goals as goal

pub of_raster-requires : goal.of_raster-requires
of_raster-requires c =
    let a = c.args in end_fits a.file.now a.pixels.now a.marks.now c.read_raster_bytes-read.result c.read_raster_bytes-read.ensures.result_value
