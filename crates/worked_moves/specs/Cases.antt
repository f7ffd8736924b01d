-- Paper 02, P5, the move: worked cases, one table under one statement. Each is a whole file, moved through the definitions that the promise
-- of `transcode` cites, into an output that holds something.
use Rattle.std.specs.Prelude.{ℕ, ◌+◌, ◌-◌, ◌≡◌, List, [], ◌∷◌, ◌++◌, map, length, replicate}
use Rattle.std.proofs.lemmas.List.Edits.{sets}
use Rattle.units.specs.Words.{words_to_bytes}
use Rattle.edges.specs.Files.{header, with_word, line_from, one_line, words_from, two_open}
use Rattle.transcode.specs.Transcoding.{transcoding, out_transcoded}

-- A file and the room of the output; and of its move the number, the written length and the output afterwards.
pub record Case : Type 0 where
  pub file : List ℕ
  pub room : ℕ
  pub number : ℕ
  pub size : ℕ
  pub out : List ℕ

-- the case with what the definitions give
unfoldable pub computed : Case → Case
computed c =
    let a = transcoding c.file c.room in
    record { file = c.file; room = c.room; number = a.number; size = a.size; out = out_transcoded c.file (replicate c.room 7) }

-- a file that becomes another, with two bytes of the output left behind it
unfoldable pub becomes : List ℕ → List ℕ → Case
becomes f g = record { file = f; room = length g + 2; number = 0; size = length g; out = g ++ (7 ∷ 7 ∷ []) }

-- a file that is not moved: the output is as it was
unfoldable pub stays : List ℕ → ℕ → ℕ → Case
stays f room n = record { file = f; room = room; number = n; size = 0; out = replicate room 7 }

-- a scanline of words whose identifier has this low byte
abbrev pub line_of : ℕ → ℕ → List ℕ → List ℕ
line_of low number body = words_to_bytes ((0x5900 + low) ∷ ((length body + 2) ∷ (number ∷ (0 ∷ body))))

-- a header with a unit code, and a byte in its last block, which nothing reads
abbrev pub marked : List ℕ → List ℕ
marked h = with_word 6 0x1234 (sets h 1000 (99 ∷ []))

unfoldable pub cases : List Case
cases =
    -- with headers, P 8, two lines: identifiers, numbers and the other bytes of the header stay; three bytes after the last line go
    becomes (marked (header 2 1 8 2 1) ++ (line_of 0xa5 1 (0x1800 ∷ []) ++ (line_of 0 2 (0xff00 ∷ []) ++ (1 ∷ 2 ∷ 3 ∷ []))))
    (marked (header 2 9 8 2 1) ++ (line_of 0xa5 1 (3 ∷ 2 ∷ 3 ∷ []) ++ line_of 0 2 (0 ∷ 8 ∷ 0 ∷ []))) ∷
    becomes (marked (header 2 9 8 2 1) ++ (line_of 0xa5 1 (3 ∷ 2 ∷ 3 ∷ []) ++ line_of 0 2 (0 ∷ 8 ∷ 0 ∷ [])))
    (marked (header 2 1 8 2 1) ++ (line_of 0xa5 1 (0x1800 ∷ []) ++ line_of 0 2 (0xff00 ∷ []))) ∷
    -- runs of 0 within a body, and one that is cut
    becomes (one_line 9 (3 ∷ 1 ∷ 0 ∷ 1 ∷ 3 ∷ 0 ∷ 0 ∷ [])) (one_line 1 (0x1800 ∷ [])) ∷
    -- P 17: a word for the last pixel
    becomes (header 2 1 17 1 1 ++ line_of 0 1 (0x8001 ∷ 0x8000 ∷ [])) (header 2 9 17 1 1 ++ line_of 0 1 (0 ∷ 1 ∷ 14 ∷ 2 ∷ 0 ∷ [])) ∷
    becomes (header 2 9 17 1 1 ++ line_of 0 1 (0 ∷ 1 ∷ 14 ∷ 2 ∷ 0 ∷ [])) (header 2 1 17 1 1 ++ line_of 0 1 (0x8001 ∷ 0x8000 ∷ [])) ∷
    -- without headers
    becomes (two_open 1 (0x1800 ∷ 0xff00 ∷ [])) (two_open 9 (3 ∷ 2 ∷ 3 ∷ 0 ∷ 8 ∷ 0 ∷ [])) ∷
    becomes (two_open 9 (3 ∷ 2 ∷ 3 ∷ 0 ∷ 8 ∷ 0 ∷ 5 ∷ [])) (two_open 1 (0x1800 ∷ 0xff00 ∷ [])) ∷
    -- an empty file; a type that is no move's, before a line that is refused; a spare bit; a line that is missing
    stays [] 3 11 ∷
    stays (one_line 10 (8 ∷ 7 ∷ [])) 3 30 ∷
    stays (one_line 1 (0x1801 ∷ [])) 3 41 ∷
    stays (two_open 1 (0x1800 ∷ [])) 3 41 ∷
    -- an offset, also one of P; an offset in the first line and a spare bit in the second
    stays (words_from 1 3 (0xa800 ∷ [])) 3 42 ∷
    stays (words_from 9 8 (0 ∷ [])) 3 42 ∷
    stays (header 2 1 8 2 1 ++ (line_from 3 1 3 (words_to_bytes (0xa800 ∷ [])) ++ line_of 0 2 (0x1801 ∷ []))) 3 41 ∷
    -- room for one byte less than the 1,038 that are needed
    stays (one_line 1 (0x1800 ∷ [])) 1037 28 ∷
    []

-- every case is as the definitions give it
abbrev pub AllMoved : Type 0
AllMoved = map computed cases ≡ cases
