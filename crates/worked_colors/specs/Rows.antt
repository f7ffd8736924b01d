-- Paper 02, P7: the colors of the values 0, 1, 2, 255 and 256 in files of every data type with every kind of color table, as they are shown
-- and for the plotter: one table under one statement, through the definitions that the promises of both calls cite.
use Rattle.std.specs.Prelude.{ℕ, zero, suc, ◌-◌, ◌≡◌, cond, List, [], ◌∷◌, ◌++◌, map, take, eqb}
use Rattle.units.specs.Over.{zeros}
use Rattle.units.specs.Words.{words_to_bytes}
use Rattle.color.specs.Color.{ColorNumbers, color, even_color, no_color, color_reading, plotter_reading}
use Rattle.edges.specs.Files.{header, with_word}

-- IGDS: n triples, in which the value v is v, 255 - v and 7
unfoldable pub triples_from : ℕ → ℕ → List ℕ
triples_from v zero = []
triples_from v (suc n) = v ∷ ((255 - v) ∷ (7 ∷ triples_from (suc v) n))

-- Environ-V: four entries, of which one has the slot 256 and none the slot 2
unfoldable pub entries : List ℕ
entries =
    words_to_bytes
    (256 ∷ 61 ∷ 62 ∷ 63 ∷
    0 ∷ 11 ∷ 12 ∷ 13 ∷
    255 ∷ 65535 ∷ 52 ∷ 53 ∷
    1 ∷ 21 ∷ 22 ∷ 23 ∷ [])

-- A file of three blocks. Without a table the same bytes stand there as with an IGDS table, and four is CTE everywhere: CTV alone says
-- what counts.
unfoldable pub file : ℕ → ℕ → List ℕ
file dtc ctv =
    take 768 (with_word 532 ctv (with_word 536 4 (header 3 dtc 8 1 0))) ++ cond (eqb ctv 2) (entries ++ zeros (768 - 32)) (triples_from 0 256)

-- a data type and CTV, and the five colors by each call
pub record Row : Type 0 where
  pub dtc : ℕ
  pub ctv : ℕ
  pub shown : List ColorNumbers
  pub plotted : List ColorNumbers

unfoldable pub values : List ℕ
values = 0 ∷ 1 ∷ 2 ∷ 255 ∷ 256 ∷ []

-- the row with what the definitions give
unfoldable pub computed : Row → Row
computed r =
    let f = file r.dtc r.ctv in
    record { dtc = r.dtc; ctv = r.ctv; shown = map (color_reading f) values; plotted = map (plotter_reading f) values }

unfoldable pub ink : List ColorNumbers
ink = even_color 65535 ∷ even_color 0 ∷ no_color 25 ∷ no_color 25 ∷ no_color 25 ∷ []

unfoldable pub grays : List ColorNumbers
grays = even_color 0 ∷ even_color 256 ∷ even_color 512 ∷ even_color 65280 ∷ no_color 25 ∷ []

unfoldable pub igds : List ColorNumbers
igds = color 0 65280 1792 ∷ color 256 65024 1792 ∷ color 512 64768 1792 ∷ color 65280 0 1792 ∷ no_color 25 ∷ []

unfoldable pub environ : List ColorNumbers
environ = color 11 12 13 ∷ color 21 22 23 ∷ no_color 25 ∷ color 65535 52 53 ∷ color 61 62 63 ∷ []

abbrev pub row : ℕ → ℕ → List ColorNumbers → List ColorNumbers → Row
row dtc ctv shown plotted = record { dtc = dtc; ctv = ctv; shown = shown; plotted = plotted }

unfoldable pub rows : List Row
rows =
    row 1 0 ink grays ∷
    row 2 0 grays grays ∷
    row 3 0 grays grays ∷
    row 9 0 ink grays ∷
    row 10 0 grays grays ∷
    row 1 1 igds igds ∷
    row 2 1 igds igds ∷
    row 3 1 igds igds ∷
    row 9 1 igds igds ∷
    row 10 1 igds igds ∷
    row 1 2 environ environ ∷
    row 2 2 environ environ ∷
    row 3 2 environ environ ∷
    row 9 2 environ environ ∷
    row 10 2 environ environ ∷
    []

-- every row is as the definitions give it
abbrev pub AllColored : Type 0
AllColored = map computed rows ≡ rows
