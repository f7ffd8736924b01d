-- "Colours": the color of a pixel value in a file, as the paper's numbers; and paper 02, P7, "Ink on paper".
use Rattle.std.specs.Prelude.{ℕ, ◌+◌, ◌-◌, ◌*◌, Bool, cond, ◌&&◌, ◌||◌, List, eqb, ltb, Result, Ok, Err}
use Rattle.refusals.specs.declared.Rejection.{Rejection}
use Rattle.refusals.specs.Rejections.{number_of}
use Rattle.units.specs.LittleEndian.{byte_at, u16_at}
use Rattle.units.specs.Scan.{scan}
use Rattle.color.specs.declared.Rgb.{Rgb}
use Rattle.fields.specs.Fields.{fields_of}
use Rattle.header.specs.Rejections.{rejection_to22, entry_start, slot_at}

-- the number of the rejection or 0, and the three parts
pub record ColorNumbers : Type 0 where
  pub number : ℕ
  pub red : ℕ
  pub green : ℕ
  pub blue : ℕ

abbrev pub color : ℕ → ℕ → ℕ → ColorNumbers
color r g b = record { number = 0; red = r; green = g; blue = b }

abbrev pub even_color : ℕ → ColorNumbers
even_color c = color c c c

abbrev pub no_color : ℕ → ColorNumbers
no_color n = record { number = n; red = 0; green = 0; blue = 0 }

-- A part c of one byte is 256c in 16 bits: the scale of colors, and no unit of the format.
abbrev pub scaled : ℕ → ℕ
scaled c = 256 * c

-- without a table: the identity
abbrev pub gray_color : ℕ → ColorNumbers
gray_color v = cond (ltb 255 v) (no_color 25) (color (scaled v) (scaled v) (scaled v))

-- IGDS: 256 triples of bytes from byte 768
abbrev pub igds_color : List ℕ → ℕ → ColorNumbers
igds_color f v =
    cond (ltb 255 v) (no_color 25)
    (color (scaled (byte_at f (768 + 3 * v))) (scaled (byte_at f (768 + 3 * v + 1))) (scaled (byte_at f (768 + 3 * v + 2))))

-- Environ-V: the entry that has the value as its slot, as stored
abbrev pub entry_color : List ℕ → ℕ → ColorNumbers
entry_color f i = color (u16_at f (entry_start i + 2)) (u16_at f (entry_start i + 4)) (u16_at f (entry_start i + 6))

abbrev pub environ_color : List ℕ → ℕ → ℕ → ColorNumbers
environ_color f n v = scan (λ i. eqb (slot_at f i) v) (entry_color f) (no_color 25) 0 (n - 0)

-- the color of a value by the file's table
abbrev pub table_color : List ℕ → ℕ → ColorNumbers
table_color f v =
    cond (eqb (fields_of f).ctv 0) (gray_color v)
    (cond (eqb (fields_of f).ctv 1) (igds_color f v) (environ_color f (fields_of f).cte v))

-- "the greyscale plotter still gets the old answer, under its own name": by the table alone, whatever the data type
abbrev pub plotter_reading : List ℕ → ℕ → ColorNumbers
plotter_reading f v = cond (eqb (rejection_to22 f) 0) (table_color f v) (no_color (rejection_to22 f))

-- "types 1 and 9 with CTV 0"
abbrev pub is_inked : ℕ → ℕ → Bool
is_inked dtc ctv = eqb ctv 0 && (eqb dtc 1 || eqb dtc 9)

-- "let 0 be 65535 three times and 1 be 0 three times": white paper and black ink
abbrev pub ink_color : ℕ → ColorNumbers
ink_color v = cond (eqb v 0) (even_color 65535) (cond (eqb v 1) (even_color 0) (no_color 25))

-- what P7 leaves as it was goes by the table
abbrev pub shown_color : List ℕ → ℕ → ColorNumbers
shown_color f v = cond (is_inked (fields_of f).dtc (fields_of f).ctv) (ink_color v) (table_color f v)

-- the color of a value in a file, as it is shown
abbrev pub color_reading : List ℕ → ℕ → ColorNumbers
color_reading f v = cond (eqb (rejection_to22 f) 0) (shown_color f v) (no_color (rejection_to22 f))

-- the paper's numbers of an answer
abbrev pub color_numbers : Result Rgb Rejection → ColorNumbers
color_numbers (Err r) = no_color (number_of r)
color_numbers (Ok c) = color c.red c.green c.blue
