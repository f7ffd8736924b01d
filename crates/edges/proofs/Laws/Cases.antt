-- The cases are computed by the checker.
use Rattle.std.specs.Prelude.{refl}
use Rattle.units.specs.LittleEndian.{u16_at, u32_at}
use Rattle.units.specs.Scan.{scan}
use Rattle.units.specs.Words.{words, words_to_bytes}
use Rattle.packing.specs.Packing.{bits, word_bits, any_set}
use Rattle.codec.specs.RunPixels.{run_pixels, run_total, runs_from}
use Rattle.codec.specs.PairPixels.{pair_pixels, pair_total, pairs_from}
use Rattle.codec.specs.Table.{codec_of, is_data_type}
use Rattle.header.specs.Rejections.{rejection_to22, slot_occurs, shares_slot}
use Rattle.numbering.specs.Numbering.{wanted_number}
use Rattle.layout.specs.Scanline.{head_of, body_of, reading, is_lost}
use Rattle.layout.specs.Chain.{start, reached, reading_at, statuses, rows, good_count}
use Rattle.layout.specs.Reading.{raster_rejection, raster_reading, pixels_after, marks_after}
use Rattle.edges.specs.Files.{entries_from, environ}
use Rattle.edges.specs.Cases.{AllHold, lent_pixels, lent_marks, computed, rejects, reads, one, one_good, blank, cases}

pub all_hold : AllHold
unfolding cases computed rejects reads one one_good blank lent_pixels lent_marks environ entries_from u16_at u32_at scan words words_to_bytes rejection_to22 is_data_type codec_of slot_occurs shares_slot run_pixels run_total pair_pixels pair_total runs_from pairs_from bits word_bits any_set head_of body_of reading is_lost wanted_number start reached reading_at statuses rows good_count raster_rejection raster_reading pixels_after marks_after
all_hold = refl
