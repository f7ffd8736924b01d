-- Paper 02, P7: exactly where the color that is shown is not the plotter's, and both colors there.
use Rattle.std.specs.Prelude.{ℕ, ◌≤◌, ◌↔◌, ◌⊎◌, ◌≡◌, List}
use Rattle.fields.specs.Fields.{fields_of}
use Rattle.header.specs.Rejections.{rejection_to22}
use Rattle.color.specs.Color.{even_color, scaled, ink_color, color_reading, plotter_reading}

-- a file that is not rejected, "types 1 and 9 with CTV 0", and a value of at most 255: above that neither call has a color
pub record OnPaper (f : List ℕ) (v : ℕ) : Type 0 where
  pub accepted : rejection_to22 f ≡ 0
  pub bilevel : ((fields_of f).dtc ≡ 1) ⊎ ((fields_of f).dtc ≡ 9)
  pub no_table : (fields_of f).ctv ≡ 0
  pub one_byte : v ≤ 255

pub record TwoColors (f : List ℕ) (v : ℕ) : Type 0 where
  pub alike : (color_reading f v ≡ plotter_reading f v) ↔ (OnPaper f v → ⊥)
  pub shown : OnPaper f v → color_reading f v ≡ ink_color v
  pub plotted : OnPaper f v → plotter_reading f v ≡ even_color (scaled v)

-- `colors_differ` proves it.
abbrev pub ColorsDiffer : Type 0
ColorsDiffer = (f : List ℕ) (v : ℕ) → TwoColors f v
