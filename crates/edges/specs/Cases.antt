-- "Sheets at the edges", cases 1 to 10, 12 and 13, lines that start partway, and type 1: one table under one statement. Each case is a whole
-- file, read through the definitions that the promises of `read_header` and `read_raster` cite.
use Rattle.std.specs.Prelude.{ℕ, ◌-◌, ◌≡◌, List, [], ◌∷◌, ◌++◌, map, replicate}
use Rattle.units.specs.Words.{words_to_bytes}
use Rattle.header.specs.Reading.{header_reading}
use Rattle.layout.specs.Reading.{raster_reading, pixels_after, marks_after}
use Rattle.edges.specs.Files.{header, with_word, line, line_from, one_line, bytes_from, words_from, two_open, environ}

-- A file; the blocks of its header and the kind and size of its resolution, zeros where it is rejected; and of its reading
-- the answer, the good lines, the end, and the buffers afterwards.
pub record Case : Type 0 where
  pub file : List ℕ
  pub blocks : ℕ
  pub kind : ℕ
  pub size : ℕ
  pub answer : ℕ
  pub good : ℕ
  pub end : ℕ
  pub marks : List ℕ
  pub pixels : List ℕ

-- the buffers that are lent: 17 pixels and 3 marks, with something in them
unfoldable pub lent_pixels : List ℕ
lent_pixels = replicate 17 7

unfoldable pub lent_marks : List ℕ
lent_marks = replicate 3 7

-- the case with what the definitions give
unfoldable pub computed : Case → Case
computed c =
    let h = header_reading c.file in
    let r = raster_reading c.file lent_pixels lent_marks in
    record {
      file = c.file;
      blocks = h.blocks;
      kind = h.resolution.kind;
      size = h.resolution.size;
      answer = r.answer;
      good = r.good;
      end = r.end;
      marks = marks_after c.file lent_pixels lent_marks;
      pixels = pixels_after c.file lent_pixels lent_marks;
    }

-- a rejected file: nothing but the number, and the buffers as they were
unfoldable pub rejects : List ℕ → ℕ → Case
rejects f n =
    record {
      file = f;
      blocks = 0;
      kind = 0;
      size = 0;
      answer = n;
      good = 0;
      end = 0;
      marks = lent_marks;
      pixels = lent_pixels;
    }

-- a file of two blocks and no resolution that is read: answer, good lines, end, marks and pixels, and what was there
unfoldable pub reads : List ℕ → ℕ → ℕ → ℕ → List ℕ → List ℕ → Case
reads f answer good end marks pixels =
    record { file = f; blocks = 2; kind = 0; size = 0; answer = answer; good = good; end = end; marks = marks; pixels = pixels }

-- one scanline of P 8: its mark, its row and the end
unfoldable pub one : List ℕ → ℕ → List ℕ → ℕ → Case
one f mark row end = reads f 1 0 end (mark ∷ (7 ∷ (7 ∷ []))) (row ++ replicate 9 7)

unfoldable pub one_good : List ℕ → List ℕ → ℕ → Case
one_good f row end = reads f 0 1 end (0 ∷ (7 ∷ (7 ∷ []))) (row ++ replicate 9 7)

unfoldable pub blank : List ℕ
blank = replicate 8 0

unfoldable pub cases : List Case
cases =
    -- 1: an empty file
    rejects [] 11 ∷
    -- 2: WTF 510 is two blocks, and 509 none. The file ends with its header, so the scanline is lost.
    one (header 2 9 8 1 1) 1 blank 1024 ∷
    rejects (with_word 2 509 (header 2 9 8 1 1)) 13 ∷
    -- 3: a type 9 body
    one_good (one_line 9 (3 ∷ 2 ∷ 3 ∷ [])) (0 ∷ 0 ∷ 0 ∷ 1 ∷ 1 ∷ 0 ∷ 0 ∷ 0 ∷ []) 1038 ∷
    -- 4: a total above P, one below, and an even number of words
    one (one_line 9 (3 ∷ 2 ∷ 4 ∷ [])) 7 blank 1038 ∷
    one (one_line 9 (3 ∷ [])) 8 blank 1034 ∷
    one (one_line 9 (3 ∷ 2 ∷ [])) 6 blank 1036 ∷
    -- 5: zero runs
    one_good (one_line 9 (8 ∷ 0 ∷ 0 ∷ [])) blank 1038 ∷
    -- 6: no headers, two lines: the first takes three words
    reads (two_open 9 (3 ∷ 5 ∷ 0 ∷ 8 ∷ [])) 0 2 1032 (0 ∷ (0 ∷ (7 ∷ []))) ((0 ∷ 0 ∷ 0 ∷ 1 ∷ 1 ∷ 1 ∷ 1 ∷ 1 ∷ []) ++ (blank ++ (7 ∷ []))) ∷
    -- 7: no headers, two lines: the first takes one word
    reads (two_open 9 (8 ∷ 0 ∷ 0 ∷ 8 ∷ [])) 0 2 1032 (0 ∷ (0 ∷ (7 ∷ []))) (blank ++ (blank ++ (7 ∷ []))) ∷
    -- 8: W 2 in types 9 and 10, and W 1
    one (one_line 9 []) 6 blank 1032 ∷
    one (one_line 10 []) 8 blank 1032 ∷
    reads (header 2 9 8 2 1 ++ line 1 1 []) 1 0 1024 (3 ∷ (9 ∷ (7 ∷ []))) (blank ++ (blank ++ (7 ∷ []))) ∷
    -- 9: type 10, value then count
    one_good (one_line 10 (7 ∷ 8 ∷ [])) (replicate 8 7) 1036 ∷
    one (one_line 10 (8 ∷ 7 ∷ [])) 8 blank 1036 ∷
    -- 10: type 2 with an odd P and a spare byte
    reads (header 2 2 3 1 1 ++ line 4 1 (5 ∷ 6 ∷ 7 ∷ 99 ∷ [])) 0 1 1036 (0 ∷ (7 ∷ (7 ∷ []))) ((5 ∷ 6 ∷ 7 ∷ []) ++ replicate 14 7) ∷
    -- 12: DRS -200 is 200 dots per inch
    record {
      file = with_word 192 (65536 - 200) (one_line 9 (8 ∷ []));
      blocks = 2;
      kind = 2;
      size = 200;
      answer = 0;
      good = 1;
      end = 1034;
      marks = 0 ∷ (7 ∷ (7 ∷ []));
      pixels = blank ++ replicate 9 7;
    } ∷
    -- 13: 32 Environ-V entries fit two blocks and 33 do not; 96 fit three and 97 do not
    one (environ 2 32) 1 blank 1024 ∷
    rejects (environ 2 33) 21 ∷
    record {
      file = environ 3 96;
      blocks = 3;
      kind = 0;
      size = 0;
      answer = 1;
      good = 0;
      end = 1536;
      marks = 1 ∷ (7 ∷ (7 ∷ []));
      pixels = blank ++ replicate 9 7;
    } ∷
    rejects (environ 3 97) 21 ∷
    -- An offset of 3: the body's first pixel is the row's fourth, and five are left for it. In type 2 a spare byte follows them.
    one_good (bytes_from 2 3 (5 ∷ 6 ∷ 7 ∷ 8 ∷ 9 ∷ 99 ∷ [])) (0 ∷ 0 ∷ 0 ∷ 5 ∷ 6 ∷ 7 ∷ 8 ∷ 9 ∷ []) 1038 ∷
    one_good (words_from 3 3 (500 ∷ 600 ∷ 700 ∷ 800 ∷ 900 ∷ [])) (0 ∷ 0 ∷ 0 ∷ 500 ∷ 600 ∷ 700 ∷ 800 ∷ 900 ∷ []) 1042 ∷
    one_good (words_from 9 3 (1 ∷ 3 ∷ 1 ∷ [])) (0 ∷ 0 ∷ 0 ∷ 0 ∷ 1 ∷ 1 ∷ 1 ∷ 0 ∷ []) 1038 ∷
    one_good (words_from 10 3 (5 ∷ 2 ∷ 6 ∷ 3 ∷ [])) (0 ∷ 0 ∷ 0 ∷ 5 ∷ 5 ∷ 6 ∷ 6 ∷ 6 ∷ []) 1040 ∷
    -- bodies that fit P, and totals below what is left
    one (bytes_from 2 3 (1 ∷ 2 ∷ 3 ∷ 4 ∷ 5 ∷ 6 ∷ 7 ∷ 8 ∷ [])) 6 blank 1040 ∷
    one (words_from 3 3 (1 ∷ 2 ∷ 3 ∷ 4 ∷ 5 ∷ 6 ∷ 7 ∷ 8 ∷ [])) 6 blank 1048 ∷
    one (words_from 9 3 (3 ∷ 2 ∷ 3 ∷ [])) 7 blank 1038 ∷
    one (words_from 10 3 (7 ∷ 8 ∷ [])) 7 blank 1036 ∷
    one (words_from 9 3 (1 ∷ 3 ∷ 0 ∷ [])) 8 blank 1038 ∷
    one (words_from 10 3 (7 ∷ 4 ∷ [])) 8 blank 1036 ∷
    -- type 2 with P 3: an offset of 1 leaves two, and no spare byte follows them
    reads (header 2 2 3 1 1 ++ line_from 3 1 1 (5 ∷ 6 ∷ [])) 0 1 1034 (0 ∷ (7 ∷ (7 ∷ []))) ((0 ∷ 5 ∷ 6 ∷ []) ++ replicate 14 7) ∷
    reads (header 2 2 3 1 1 ++ line_from 4 1 1 (5 ∷ 6 ∷ 99 ∷ 99 ∷ [])) 1 0 1036 (6 ∷ (7 ∷ (7 ∷ []))) ((0 ∷ 0 ∷ 0 ∷ []) ++ replicate 14 7) ∷
    -- an offset of 8, which leaves none: no words in types 2 and 3, an odd number that total 0 in type 9, counts of 0 in type 10
    one_good (words_from 2 8 []) blank 1032 ∷
    one_good (words_from 3 8 []) blank 1032 ∷
    one_good (words_from 9 8 (0 ∷ [])) blank 1034 ∷
    one_good (words_from 9 8 (0 ∷ 0 ∷ 0 ∷ [])) blank 1038 ∷
    one_good (words_from 10 8 []) blank 1032 ∷
    one_good (words_from 10 8 (7 ∷ 0 ∷ [])) blank 1036 ∷
    one (words_from 2 8 (5 ∷ [])) 6 blank 1034 ∷
    one (words_from 3 8 (5 ∷ [])) 6 blank 1034 ∷
    one (words_from 9 8 []) 6 blank 1032 ∷
    one (words_from 9 8 (0 ∷ 0 ∷ [])) 6 blank 1036 ∷
    one (words_from 9 8 (1 ∷ [])) 7 blank 1034 ∷
    one (words_from 10 8 (7 ∷ [])) 6 blank 1034 ∷
    one (words_from 10 8 (7 ∷ 1 ∷ [])) 7 blank 1036 ∷
    -- an offset of 9, beyond the row, before any fault of the body and after a wrong number
    one (words_from 2 9 []) 5 blank 1032 ∷
    one (words_from 3 9 []) 5 blank 1032 ∷
    one (words_from 9 9 (0 ∷ [])) 5 blank 1034 ∷
    one (words_from 9 9 (0 ∷ 0 ∷ [])) 5 blank 1036 ∷
    one (words_from 10 9 []) 5 blank 1032 ∷
    one (words_from 10 65535 (7 ∷ 8 ∷ [])) 5 blank 1036 ∷
    one (header 2 9 8 1 1 ++ line_from 3 2 9 (0 ∷ 0 ∷ [])) 4 blank 1034 ∷
    -- Type 1, P 8: the row is the word's high byte, which is its second, and the leftmost pixel the highest bit. The low byte is spare.
    one_good (bytes_from 1 0 (0 ∷ 0x92 ∷ [])) (1 ∷ 0 ∷ 0 ∷ 1 ∷ 0 ∷ 0 ∷ 1 ∷ 0 ∷ []) 1034 ∷
    one (bytes_from 1 0 (1 ∷ 0x92 ∷ [])) 10 blank 1034 ∷
    one (bytes_from 1 0 (0x80 ∷ 0x92 ∷ [])) 10 blank 1034 ∷
    -- no word, and one too many, with a spare bit set too
    one (words_from 1 0 []) 6 blank 1032 ∷
    one (words_from 1 0 (0x9201 ∷ 0 ∷ [])) 6 blank 1036 ∷
    -- P 16: no bit is spare
    reads (header 2 1 16 1 1 ++ line 3 1 (words_to_bytes (0x8003 ∷ []))) 0 1 1034 (0 ∷ (7 ∷ (7 ∷ [])))
    ((1 ∷ replicate 13 0) ++ (1 ∷ 1 ∷ 7 ∷ [])) ∷
    -- P 17: two words, of which the second holds one pixel
    reads (header 2 1 17 1 1 ++ line 4 1 (words_to_bytes (0x8001 ∷ 0x8000 ∷ []))) 0 1 1036 (0 ∷ (7 ∷ (7 ∷ [])))
    ((1 ∷ replicate 14 0) ++ (1 ∷ 1 ∷ [])) ∷
    reads (header 2 1 17 1 1 ++ line 4 1 (words_to_bytes (0x8001 ∷ 0xc000 ∷ []))) 1 0 1036 (10 ∷ (7 ∷ (7 ∷ []))) (replicate 17 0) ∷
    reads (header 2 1 17 1 1 ++ line 3 1 (words_to_bytes (0x8001 ∷ []))) 1 0 1034 (6 ∷ (7 ∷ (7 ∷ []))) (replicate 17 0) ∷
    -- no headers, two lines of a word each. A spare bit set in the first: the chain goes on. No second word: the second line is lost.
    reads (two_open 1 (0x9200 ∷ 0x0100 ∷ [])) 0 2 1028 (0 ∷ (0 ∷ (7 ∷ [])))
    ((1 ∷ 0 ∷ 0 ∷ 1 ∷ 0 ∷ 0 ∷ 1 ∷ 0 ∷ []) ++ (replicate 7 0 ++ (1 ∷ 7 ∷ []))) ∷
    reads (two_open 1 (0x9201 ∷ 0x0100 ∷ [])) 1 1 1028 (10 ∷ (0 ∷ (7 ∷ []))) (blank ++ (replicate 7 0 ++ (1 ∷ 7 ∷ []))) ∷
    reads (two_open 1 (0x9200 ∷ [])) 1 1 1026 (0 ∷ (1 ∷ (7 ∷ []))) ((1 ∷ 0 ∷ 0 ∷ 1 ∷ 0 ∷ 0 ∷ 1 ∷ 0 ∷ []) ++ (blank ++ (7 ∷ []))) ∷
    -- an offset of 3 leaves five pixels, one of 8 none and so no word, and one of 9 is beyond the row
    one_good (words_from 1 3 (0xa800 ∷ [])) (0 ∷ 0 ∷ 0 ∷ 1 ∷ 0 ∷ 1 ∷ 0 ∷ 1 ∷ []) 1034 ∷
    one (words_from 1 3 (0xac00 ∷ [])) 10 blank 1034 ∷
    one_good (words_from 1 8 []) blank 1032 ∷
    one (words_from 1 8 (0 ∷ [])) 6 blank 1034 ∷
    one (words_from 1 9 []) 5 blank 1032 ∷
    []

-- every case is as the definitions give it
abbrev pub AllHold : Type 0
AllHold = map computed cases ≡ cases
