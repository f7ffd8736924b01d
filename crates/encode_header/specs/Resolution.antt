-- A signed DRS as its 16 stored bits, two's complement.
use Rattle.std.specs.Prelude.{ℕ, ◌-◌, ℤ, pos, negsuc}

abbrev pub drs_bits : ℤ → ℕ
drs_bits (pos n) = n
drs_bits (negsuc n) = 65535 - n
