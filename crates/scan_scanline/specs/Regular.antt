-- A regular scanline of type 2, as nearly all are: whole, and with the header, where there is one, that a good scanline of its size has.
-- `proofs/Laws/Regular` proves that it is good.
use Rattle.std.specs.Prelude.{ℕ, ◌+◌, ◌%◌, Bool, true, cond, ◌&&◌, List, length, eqb, leb}
use Rattle.units.specs.Counts.{word_bytes}
use Rattle.units.specs.LittleEndian.{byte_at, u16_at}

-- the bytes of one of p pixels: with a header, a spare byte follows an odd number of them
abbrev pub regular_size : ℕ → ℕ → ℕ
regular_size scn p = cond (eqb scn 1) (8 + p + p % 2) p

-- a header of this number and size: identifier, words to follow, line number, pixel offset
abbrev pub is_regular_head : ℕ → ℕ → List ℕ → Bool
is_regular_head number size rest =
    eqb (byte_at rest 1) 0x59 &&
    (eqb (4 + word_bytes (u16_at rest 2)) size && (eqb (u16_at rest 4) number && eqb (u16_at rest 6) 0))

unfoldable pub is_regular : ℕ → ℕ → ℕ → List ℕ → Bool
is_regular scn number size rest = leb size (length rest) && cond (eqb scn 1) (is_regular_head number size rest) true
