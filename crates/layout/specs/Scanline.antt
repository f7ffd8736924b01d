-- "Line headers and bodies" and "Reading a sheet": one scanline, from the bytes that are left of a raster, `rest`. Where it ends
-- and whether it is lost (a step) does not go by its line number; its status and its row (a reading) do.
use Rattle.std.specs.Prelude.{ℕ, ◌+◌, ◌-◌, Bool, not, cond, List, [], ◌∷◌, ◌++◌, length, take, drop, eqb, ltb}
use Rattle.units.specs.declared.Bytes.{Bytes}
use Rattle.units.specs.declared.Words.{Words}
use Rattle.units.specs.Counts.{n_bytes, n_words, bytes_of_words}
use Rattle.units.specs.LittleEndian.{byte_at, u16_at}
use Rattle.units.specs.Over.{zeros}
use Rattle.units.specs.Rules.{Rule, rule, first}
use Rattle.codec.specs.Codec.{row_of}
use Rattle.codec.specs.Table.{body_rules, body_pixels, body_extent}
use Rattle.numbering.specs.Numbering.{stored_number}

-- The scanline header, four words, as far as it lies in the file: identifier, words to follow W, line number, pixel offset.
unfoldable pub head_of : List ℕ → List ℕ
head_of rest = take 8 rest

-- words to follow, and the body's size, W - 2 words
abbrev pub following : List ℕ → Words
following hd = n_words (u16_at hd 2)

abbrev pub body_size : List ℕ → Bytes
body_size hd = bytes_of_words (n_words ((following hd).0 - 2))

-- no body without eight header bytes, a right identifier and W of 2 or more
abbrev pub head_rules : List ℕ → List Rule
head_rules hd =
    rule 1 (ltb (length hd) 8) ∷
    rule 2 (not (eqb (byte_at hd 1) 0x59)) ∷
    rule 3 (ltb (following hd).0 2) ∷
    []

-- the body, as far as it lies in the file
unfoldable pub body_of : List ℕ → List ℕ
body_of rest = cond (eqb (first (head_rules (head_of rest))) 0) (take (body_size (head_of rest)).0 (drop 8 rest)) []

-- a scanline with a header is lost exactly where one of these holds
abbrev pub lost_rules : List ℕ → List ℕ → List Rule
lost_rules hd body = head_rules hd ++ (rule 1 (ltb (length body) (body_size hd).0) ∷ [])

-- the pixel offset, which is the column of the body's first pixel, and the pixels of a row of p that are left for the body
abbrev pub pixel_offset : List ℕ → ℕ
pixel_offset hd = u16_at hd 6

abbrev pub body_width : ℕ → List ℕ → ℕ
body_width p hd = p - pixel_offset hd

-- the line number, and an offset beyond the row
abbrev pub placement_rules : ℕ → ℕ → List ℕ → List Rule
placement_rules p number hd = rule 4 (not (eqb (stored_number hd) number)) ∷ rule 5 (ltb p (pixel_offset hd)) ∷ []

-- the order of the statuses with headers
abbrev pub status_rules : ℕ → ℕ → ℕ → List ℕ → List ℕ → List Rule
status_rules t p number hd body = lost_rules hd body ++ (placement_rules p number hd ++ body_rules t body (body_width p hd))

-- the pixels of a row of p: zeros before the offset, and then the body's
abbrev pub row_pixels : ℕ → ℕ → List ℕ → List ℕ → List ℕ
row_pixels t p hd body = zeros (pixel_offset hd) ++ body_pixels t body (body_width p hd)

-- The reading of a scanline: its status and its row. With a header it is settled by the data type, the row's length, the
-- wanted line number, the header's bytes and the body.
pub record Reading : Type 0 where
  pub status : ℕ
  pub row : List ℕ

unfoldable pub reading : ℕ → ℕ → ℕ → List ℕ → List ℕ → Reading
reading t p number hd body =
    record {
      status = first (status_rules t p number hd body);
      row = row_of (first (status_rules t p number hd body)) p (row_pixels t p hd body);
    }

abbrev pub headed_reading : ℕ → ℕ → ℕ → List ℕ → Reading
headed_reading t p number rest = reading t p number (head_of rest) (body_of rest)

-- without a header: by what it takes
abbrev pub open_reading : ℕ → ℕ → List ℕ → Reading
open_reading t p rest =
    record {
      status = (body_extent t rest p).status;
      row = row_of (body_extent t rest p).status p (body_pixels t (take (body_extent t rest p).used.0 rest) p);
    }

-- a scanline that follows a lost one
abbrev pub unreached : ℕ → Reading
unreached p = record { status = 9; row = zeros p }

-- A step of the chain: whether the scanline is lost, and how many bytes lie between its start and the next one's, none where
-- it is lost. With a header these are its first two words, four bytes, and then W words.
pub record Step : Type 0 where
  pub lost : Bool
  pub used : Bytes

abbrev pub step : Bool → ℕ → Step
step lost n = record { lost = lost; used = n_bytes (cond lost 0 n) }

unfoldable pub is_lost : List ℕ → Bool
is_lost rest = not (eqb (first (lost_rules (head_of rest) (body_of rest))) 0)

abbrev pub headed_step : List ℕ → Step
headed_step rest = step (is_lost rest) (4 + (bytes_of_words (following (head_of rest))).0)

abbrev pub open_step : ℕ → ℕ → List ℕ → Step
open_step t p rest = step (body_extent t rest p).lost (body_extent t rest p).used.0

-- by SCN: 1 with headers, 0 without
abbrev pub step_of : ℕ → ℕ → ℕ → List ℕ → Step
step_of scn t p rest = cond (eqb scn 1) (headed_step rest) (open_step t p rest)

abbrev pub reading_of : ℕ → ℕ → ℕ → ℕ → List ℕ → Reading
reading_of scn t p number rest = cond (eqb scn 1) (headed_reading t p number rest) (open_reading t p rest)
