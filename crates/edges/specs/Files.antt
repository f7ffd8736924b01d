-- Whole files, byte by byte, to compute worked cases with.
use Rattle.std.specs.Prelude.{ℕ, zero, suc, ◌+◌, ◌-◌, List, [], ◌∷◌, ◌++◌, length, take}
use Rattle.std.proofs.lemmas.List.Edits.{sets}
use Rattle.units.specs.Counts.{n_blocks, words_of_blocks, bytes_of_blocks}
use Rattle.units.specs.LittleEndian.{u16_bytes}
use Rattle.units.specs.Over.{zeros}
use Rattle.units.specs.Words.{words_to_bytes, word_count}

-- a file with a number of 16 bits put at a byte
abbrev pub with_word : ℕ → ℕ → List ℕ → List ℕ
with_word i v f = sets f i (u16_bytes v)

-- a header of n blocks in which every field is right: HTC, WTF, data type, PPL, NOL, SCN and VER
abbrev pub header : ℕ → ℕ → ℕ → ℕ → ℕ → List ℕ
header n dtc ppl nol scn =
    with_word 0 0x0908
    (with_word 2 ((words_of_blocks (n_blocks n)).0 - 2)
    (with_word 4 dtc
    (with_word 184 ppl (with_word 188 nol (sets (sets (zeros (bytes_of_blocks (n_blocks n)).0) 195 (scn ∷ [])) 511 (3 ∷ []))))))

-- a scanline with its header: W words to follow, of which two are the number and the offset
abbrev pub line_from : ℕ → ℕ → ℕ → List ℕ → List ℕ
line_from w number offset body = words_to_bytes (0x5900 ∷ (w ∷ (number ∷ (offset ∷ [])))) ++ body

-- at the offset 0
abbrev pub line : ℕ → ℕ → List ℕ → List ℕ
line w number body = line_from w number 0 body

-- a file of two blocks with one scanline of P 8 that has a body of these words
abbrev pub one_line : ℕ → List ℕ → List ℕ
one_line dtc body = header 2 dtc 8 1 1 ++ line (length body + 2) 1 (words_to_bytes body)

-- a file of two blocks with one scanline of P 8 that starts partway: its offset, and a body of these words or bytes
abbrev pub bytes_from : ℕ → ℕ → List ℕ → List ℕ
bytes_from dtc offset body = header 2 dtc 8 1 1 ++ line_from ((word_count body).0 + 2) 1 offset body

abbrev pub words_from : ℕ → ℕ → List ℕ → List ℕ
words_from dtc offset body = bytes_from dtc offset (words_to_bytes body)

-- a file of two blocks with two scanlines of P 8 without headers
abbrev pub two_open : ℕ → List ℕ → List ℕ
two_open dtc ws = header 2 dtc 8 2 0 ++ words_to_bytes ws

-- Environ-V: n entries from byte 768, with the slots 0 to n - 1, in a header of b blocks
unfoldable pub entries_from : ℕ → ℕ → List ℕ
entries_from i zero = []
entries_from i (suc n) = words_to_bytes (i ∷ (1 ∷ (2 ∷ (3 ∷ [])))) ++ entries_from (suc i) n

unfoldable pub environ : ℕ → ℕ → List ℕ
environ b n =
    let entries = entries_from 0 n in
    take 768 (with_word 532 2 (with_word 536 n (header b 2 8 1 0)))
    ++ (entries ++ zeros ((bytes_of_blocks (n_blocks b)).0 - (768 + length entries)))
