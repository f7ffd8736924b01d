-- Paper 02, P6: "The stored line number stays one word, so it rolls over after 65,535, in some makers' files to 0 and in others to 1."
-- Scanlines are counted from 0, so that line k of the paper is the scanline k - 1.
use Rattle.std.specs.Prelude.{ℕ, ◌+◌, ◌%◌, cond, List, eqb, ltb}
use Rattle.units.specs.LittleEndian.{u16_at}

-- the first scanline past a rollover, line 65,536
abbrev pub first_past : ℕ
first_past = 65535

-- The line number that scanline k must have, where `rollover` is the number in line 65,536. "The number in line 65,536 decides: if 1, every
-- roll goes to 1, else to 0": the numbers come again after 65,535 lines, or after 65,536. Lines before it have their own.
unfoldable pub wanted_number : ℕ → ℕ → ℕ
wanted_number rollover k = cond (ltb k first_past) (k + 1) (cond (eqb rollover 1) (k % 65535 + 1) ((k + 1) % 65536))

-- "Our writer lets the word wrap to 0": the line number that is written
unfoldable pub written_number : ℕ → ℕ
written_number k = (k + 1) % 65536

-- the line number in the bytes of a scanline that has a header
abbrev pub stored_number : List ℕ → ℕ
stored_number rest = u16_at rest 4

-- what is known of the number in line 65,536, when the chain has come to scanline k
unfoldable pub rollover_met : ℕ → ℕ → List ℕ → ℕ
rollover_met known k rest = cond (eqb k first_past) (stored_number rest) known
