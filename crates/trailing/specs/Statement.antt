-- "Bytes that follow the last line are ignored": one claim about two files that begin alike. f is the first file and g the second.
use Rattle.std.specs.Prelude.{ℕ, ◌≤◌, ◌<◌, ◌≡◌, true, List, ◌++◌, length, get_or}
use Rattle.header.specs.Reading.{header_reading}
use Rattle.color.specs.Color.{color_reading, plotter_reading}
use Rattle.layout.specs.Chain.{sheet_of, reached, end_of}
use Rattle.layout.specs.Reading.{raster_rejection, raster_reading, pixels_after, marks_after}

-- g has the first n bytes of f: nothing is asked of the bytes after them, nor how many there are
pub record SameUpTo (n : ℕ) (f g : List ℕ) : Type 0 where
  pub long : n ≤ length g
  pub same : (i : ℕ) → i < n → get_or g i 0 ≡ get_or f i 0

-- No scanline of f is lost, so that the end is the byte after the last one. Where one is lost the end is its first byte: the
-- bytes from there on are its own, and more of them may complete it.
abbrev pub NoneLost : List ℕ → Type 0
NoneLost f = reached (sheet_of f) (sheet_of f).nol ≡ true

-- g is read as f is: its header, its colors, and its raster into buffers that held pixels and marks
pub record ReadAlike (f g pixels marks : List ℕ) : Type 0 where
  pub header : header_reading g ≡ header_reading f
  pub colors : (v : ℕ) → color_reading g v ≡ color_reading f v
  pub plotter_colors : (v : ℕ) → plotter_reading g v ≡ plotter_reading f v
  pub accepted : raster_rejection g (length pixels) (length marks) ≡ 0
  pub answer : raster_reading g pixels marks ≡ raster_reading f pixels marks
  pub pixels_are : pixels_after g pixels marks ≡ pixels_after f pixels marks
  pub marks_are : marks_after g pixels marks ≡ marks_after f pixels marks

-- The claim, of the definitions that the promises of `read_raster`, `read_header`, `color_of` and `plotter_color_of` cite. A file of
-- more than 2,147,483,647 bytes is rejected. `trailing_ignored` proves it.
abbrev pub TrailingIgnored : Type 0
TrailingIgnored =
    (f g pixels marks : List ℕ)
    → raster_rejection f (length pixels) (length marks) ≡ 0
    → NoneLost f
    → SameUpTo (end_of (sheet_of f)) f g
    → length g ≤ 2147483647
    → ReadAlike f g pixels marks

-- In particular bytes put behind a file change nothing. `appended_ignored` proves it.
abbrev pub AppendedIgnored : Type 0
AppendedIgnored =
    (f more pixels marks : List ℕ)
    → raster_rejection f (length pixels) (length marks) ≡ 0
    → NoneLost f
    → length (f ++ more) ≤ 2147483647
    → ReadAlike f (f ++ more) pixels marks

-- A reading whose answer is 0, every scanline good, has none lost: so a good sheet reads the same whatever follows it.
-- `good_none-lost` proves it.
abbrev pub GoodNoneLost : Type 0
GoodNoneLost =
    (f pixels marks : List ℕ)
    → raster_rejection f (length pixels) (length marks) ≡ 0
    → (raster_reading f pixels marks).answer ≡ 0
    → NoneLost f
