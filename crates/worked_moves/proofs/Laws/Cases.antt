-- The cases are computed by the checker.
use Rattle.std.specs.Prelude.{refl}
use Rattle.units.specs.LittleEndian.{u16_at, u32_at}
use Rattle.units.specs.Scan.{scan}
use Rattle.units.specs.Words.{words, words_to_bytes}
use Rattle.packing.specs.Packing.{bits, word_bits, any_set, number, packed_words}
use Rattle.cutting.specs.Pieces.{pieces_within, pieces, joined, level_pieces}
use Rattle.codec.specs.RunPixels.{run_pixels, run_total, runs_from, level_runs, cut_levels}
use Rattle.codec.specs.PairPixels.{pair_total}
use Rattle.codec.specs.Table.{codec_of, is_data_type}
use Rattle.header.specs.Rejections.{rejection_to22, slot_occurs, shares_slot}
use Rattle.numbering.specs.Numbering.{wanted_number}
use Rattle.layout.specs.Scanline.{head_of, body_of, reading, is_lost}
use Rattle.layout.specs.Chain.{start, reached, reading_at}
use Rattle.transcode.specs.File.{new_line, new_lines, transcoded}
use Rattle.transcode.specs.Transcoding.{any_line, transcode_rejection, transcoding, out_transcoded}
use Rattle.worked_moves.specs.Cases.{AllMoved, computed, becomes, stays, cases}

pub all_moved : AllMoved
unfolding cases computed becomes stays u16_at u32_at scan words words_to_bytes rejection_to22 is_data_type codec_of slot_occurs shares_slot run_pixels run_total runs_from pair_total bits word_bits any_set number packed_words pieces_within pieces joined level_pieces level_runs cut_levels head_of body_of reading is_lost wanted_number start reached reading_at new_line new_lines transcoded any_line transcode_rejection transcoding out_transcoded
all_moved = refl
