-- "The sheet's header": the fields at their bytes, and the header's length in blocks.
use Rattle.std.specs.Prelude.{ℕ, ◌+◌, List}
use Rattle.units.specs.declared.Blocks.{Blocks}
use Rattle.units.specs.declared.Words.{Words}
use Rattle.units.specs.Counts.{n_words, blocks_of_words}
use Rattle.units.specs.LittleEndian.{byte_at, u16_at, u32_at}
use Rattle.fields.specs.declared.Fields.{Fields}

abbrev pub fields_of : List ℕ → Fields
fields_of f =
    record {
      htc = u16_at f 0;
      wtf = n_words (u16_at f 2);
      dtc = u16_at f 4;
      ppl = u32_at f 184;
      nol = u32_at f 188;
      drs = u16_at f 192;
      slo = byte_at f 194;
      scn = byte_at f 195;
      ver = byte_at f 511;
      ctv = u16_at f 532;
      cte = u32_at f 536;
    }

-- WTF counts the words of the header that follow its first two, HTC and WTF itself
abbrev pub header_words : Fields → Words
header_words h = n_words (h.wtf.0 + 2)

-- The whole blocks of these words. No other number of blocks can have this WTF: the table of rejections says whether this one does.
abbrev pub header_blocks : Fields → Blocks
header_blocks h = blocks_of_words (header_words h)
