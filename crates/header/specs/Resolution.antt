-- "DRS: above zero, that many microns; below zero, its size in dots per inch; zero, no resolution."
use Rattle.std.specs.Prelude.{ℕ, ◌-◌, cond, eqb, ltb}
use Rattle.header.specs.declared.reading.Resolution.{Resolution}
use Rattle.header.specs.declared.reading.Resolution.TheVariants.{Unspecified, Microns, DotsPerInch}

-- The paper's numbers of a resolution: 0 none, 1 microns, 2 dots per inch, and its size.
pub record ResolutionNumbers : Type 0 where
  pub kind : ℕ
  pub size : ℕ

abbrev pub resolution : ℕ → ℕ → ResolutionNumbers
resolution k s = record { kind = k; size = s }

abbrev pub resolution_numbers : Resolution → ResolutionNumbers
resolution_numbers Unspecified = resolution 0 0
resolution_numbers (Microns n) = resolution 1 n
resolution_numbers (DotsPerInch n) = resolution 2 n

-- A stored DRS d is a signed number of 16 bits: from 32,768 on it stands for d - 65,536.
abbrev pub resolution_of : ℕ → ResolutionNumbers
resolution_of d = cond (eqb d 0) (resolution 0 0) (cond (ltb d 32768) (resolution 1 d) (resolution 2 (65536 - d)))
