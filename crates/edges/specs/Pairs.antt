-- Demand 3 on pairs of whole files: whether the change is covered, and what each file reads as. One table under one statement.
use Rattle.std.specs.Prelude.{ℕ, ◌≡◌, ◌↔◌, Bool, true, false, ◌&&◌, List, [], ◌∷◌, ◌++◌, map, length, take, set, replicate, eqb}
use Rattle.units.specs.Words.{words_to_bytes}
use Rattle.layout.specs.Chain.{sheet_of}
use Rattle.layout.specs.Reading.{raster_reading, pixels_after, marks_after}
use Rattle.isolation.specs.Statement.{ChangedInBodies}
use Rattle.isolation.specs.Covered.{blanked}
use Rattle.edges.specs.Files.{header, line}
use Rattle.edges.specs.Cases.{blank}

unfoldable pub same_bytes : List ℕ → List ℕ → Bool
same_bytes [] [] = true
same_bytes [] (y ∷ b) = false
same_bytes (x ∷ a) [] = false
same_bytes (x ∷ a) (y ∷ b) = eqb x y && same_bytes a b

-- whether the second file differs from the first only inside bodies, computed
unfoldable pub is_covered : List ℕ → List ℕ → Bool
is_covered f g =
    let n = (sheet_of f).nol in
    eqb (length g) (length f) && same_bytes (blanked (sheet_of f) n g) (blanked (sheet_of f) n f)

-- marks and pixels after a reading into 4 marks and 25 pixels that held 7
pub record Pair : Type 0 where
  pub first : List ℕ
  pub second : List ℕ
  pub is_change : Bool
  pub end₁ : ℕ
  pub end₂ : ℕ
  pub marks₁ : List ℕ
  pub marks₂ : List ℕ
  pub pixels₁ : List ℕ
  pub pixels₂ : List ℕ

unfoldable pub held : ℕ → List ℕ
held n = replicate n 7

unfoldable pub computed_pair : Pair → Pair
computed_pair p =
    let f = p.first in
    let g = p.second in
    record {
      first = f;
      second = g;
      is_change = is_covered f g;
      end₁ = (raster_reading f (held 25) (held 4)).end;
      end₂ = (raster_reading g (held 25) (held 4)).end;
      marks₁ = marks_after f (held 25) (held 4);
      marks₂ = marks_after g (held 25) (held 4);
      pixels₁ = pixels_after f (held 25) (held 4);
      pixels₂ = pixels_after g (held 25) (held 4);
    }

-- Three scanlines of P 8, type 9. They start at bytes 1,024, 1,038 and 1,052, their bodies at 1,032, 1,046 and 1,060, and the
-- last ends at 1,066.
unfoldable pub three : List ℕ
three =
    header 2 9 8 3 1
    ++ (line 5 1 (words_to_bytes (3 ∷ 2 ∷ 3 ∷ []))
    ++ (line 5 2 (words_to_bytes (0 ∷ 8 ∷ 0 ∷ []))
    ++ line 5 3 (words_to_bytes (1 ∷ 6 ∷ 1 ∷ []))))

-- its rows
abbrev pub row1 : List ℕ
row1 = 0 ∷ 0 ∷ 0 ∷ 1 ∷ 1 ∷ 0 ∷ 0 ∷ 0 ∷ []

abbrev pub row2 : List ℕ
row2 = replicate 8 1

abbrev pub row3 : List ℕ
row3 = 0 ∷ 1 ∷ 1 ∷ 1 ∷ 1 ∷ 1 ∷ 1 ∷ 0 ∷ []

-- three rows or marks, then what was there
abbrev pub rows_of : List ℕ → List ℕ → List ℕ → List ℕ
rows_of a b c = a ++ (b ++ (c ++ (7 ∷ [])))

abbrev pub marks_of : ℕ → ℕ → ℕ → List ℕ
marks_of a b c = a ∷ b ∷ c ∷ 7 ∷ []

-- a change from these marks and rows to those, where both chains go to the end
unfoldable pub whole : List ℕ → List ℕ → List ℕ → List ℕ → Bool → List ℕ → List ℕ → Pair
whole f marks₁ pixels₁ g covered marks₂ pixels₂ =
    record {
      first = f;
      second = g;
      is_change = covered;
      end₁ = 1066;
      end₂ = 1066;
      marks₁ = marks₁;
      marks₂ = marks₂;
      pixels₁ = pixels₁;
      pixels₂ = pixels₂;
    }

-- a change of `three`
unfoldable pub of_three : List ℕ → Bool → List ℕ → List ℕ → Pair
of_three g covered marks pixels = whole three (marks_of 0 0 0) (rows_of row1 row2 row3) g covered marks pixels

-- `three` with a second scanline that starts at the fourth pixel, and a change of it
abbrev pub partway : List ℕ
partway = set (set three 1044 3) 1048 5

unfoldable pub of_partway : List ℕ → Bool → List ℕ → List ℕ → Pair
of_partway g covered marks pixels =
    whole partway (marks_of 0 0 0) (rows_of row1 (0 ∷ 0 ∷ 0 ∷ 1 ∷ 1 ∷ 1 ∷ 1 ∷ 1 ∷ []) row3) g covered marks pixels

-- `three` cut off in its last body, which has three bytes then; and with a wrong identifier in its second scanline
abbrev pub cut : List ℕ
cut = take 1063 three

abbrev pub lost : List ℕ
lost = set three 1039 0

-- a change of one of these two, which both read alike
unfoldable pub alike : List ℕ → List ℕ → Bool → ℕ → List ℕ → List ℕ → Pair
alike f g covered end marks pixels =
    record {
      first = f;
      second = g;
      is_change = covered;
      end₁ = end;
      end₂ = end;
      marks₁ = marks;
      marks₂ = marks;
      pixels₁ = pixels;
      pixels₂ = pixels;
    }

unfoldable pub pairs : List Pair
pairs =
    -- a good line: its last run one longer, so that it is refused; and two of its runs, so that it is good and another
    of_three (set three 1036 4) true (marks_of 7 0 0) (rows_of blank row2 row3) ∷
    of_three (set (set three 1032 2) 1034 3) true (marks_of 0 0 0) (rows_of (0 ∷ 0 ∷ 1 ∷ 1 ∷ 1 ∷ 0 ∷ 0 ∷ 0 ∷ []) row2 row3) ∷
    -- two lines at once: their first byte and their last
    of_three (set (set three 1032 4) 1065 1) true (marks_of 7 0 7) (rows_of blank row2 blank) ∷
    -- the cut body of a lost line
    alike cut (set cut 1062 9) true 1052 (marks_of 0 0 1) (rows_of row1 row2 blank) ∷
    -- a line that starts partway: its runs so that it is good and another, and so that they total P
    of_partway (set (set partway 1046 2) 1048 3) true (marks_of 0 0 0) (rows_of row1 (0 ∷ 0 ∷ 0 ∷ 0 ∷ 0 ∷ 1 ∷ 1 ∷ 1 ∷ []) row3) ∷
    of_partway (set partway 1048 8) true (marks_of 0 7 0) (rows_of row1 blank row3) ∷
    -- not covered: its offset
    of_partway (set partway 1044 2) false (marks_of 0 8 0) (rows_of row1 blank row3) ∷
    -- not covered: the last byte of a header, and the first byte after a body, the identifier's free one
    of_three (set three 1031 1) false (marks_of 5 0 0) (rows_of blank row2 row3) ∷
    of_three (set three 1038 1) false (marks_of 0 0 0) (rows_of row1 row2 row3) ∷
    -- nor a byte after the last line, nor one more, nor a byte of a line that is not reached
    alike (three ++ (8 ∷ [])) (three ++ (9 ∷ [])) false 1066 (marks_of 0 0 0) (rows_of row1 row2 row3) ∷
    of_three (three ++ (8 ∷ [])) false (marks_of 0 0 0) (rows_of row1 row2 row3) ∷
    alike lost (set lost 1060 2) false 1038 (marks_of 0 2 9) (rows_of row1 blank blank) ∷
    []

-- every pair is as the definitions give it, and what is computed of a pair is what demand 3 asks of it
pub record AllPairs : Type 0 where
  pub hold : map computed_pair pairs ≡ pairs
  pub means : (f g : List ℕ) → (is_covered f g ≡ true) ↔ ChangedInBodies f g
