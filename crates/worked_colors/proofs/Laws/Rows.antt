-- The rows are computed by the checker.
use Rattle.std.specs.Prelude.{refl}
use Rattle.units.specs.LittleEndian.{u16_at, u32_at}
use Rattle.units.specs.Scan.{scan}
use Rattle.units.specs.Words.{words_to_bytes}
use Rattle.codec.specs.Table.{codec_of, is_data_type}
use Rattle.header.specs.Rejections.{rejection_to22, slot_occurs, shares_slot}
use Rattle.worked_colors.specs.Rows.{AllColored, triples_from, entries, file, values, computed, ink, grays, igds, environ, rows}

pub all_colored : AllColored
unfolding rows computed values file triples_from entries ink grays igds environ u16_at u32_at scan words_to_bytes rejection_to22 is_data_type codec_of slot_occurs shares_slot
all_colored = refl
