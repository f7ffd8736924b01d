-- How long scanlines are.
use Rattle.std.specs.Prelude.{◌≡◌, ℕ, zero, suc, ◌+◌, ◌*◌, ◌≤◌, Bool, true, false, cond, List, ◌++◌, length, drop, ◌==◌}
use Rattle.std.proofs.Common.{◌∙◌, ap, arith, length-append, length-take}
use Rattle.units.proofs.Laws.Stores.{length-bytes}
use Rattle.codec.specs.Table.{body_bytes}
use Rattle.encode_body.proofs.Laws.Most.{body_most}
use Rattle.numbering.specs.Numbering.{written_number}
use Rattle.encode_header.specs.Picture.{Picture, row_at}
use Rattle.encode_raster.specs.File.{line_header, line_bytes, lines_of}
use Rattle.encode_raster.specs.Laws.Answer.{head_size}

pub length-line : (t scn number : ℕ) (row : List ℕ) → length (line_bytes t scn number row) ≡ head_size scn + length (body_bytes t scn row)
unfolding line_bytes
length-line t scn number row = go (scn == 1)
  where
    go : (b : Bool) → length (cond b (line_header number (body_bytes t scn row) ++ body_bytes t scn row) (body_bytes t scn row)) ≡ cond b 8 0 + length (body_bytes t scn row)
    go true = length-append (line_header number (body_bytes t scn row)) (body_bytes t scn row) ∙ ap (λ (n : ℕ). n + length (body_bytes t scn row)) (length-bytes _)
    go false = omega arith

head_most : (scn : ℕ) → head_size scn ≤ 8
head_most scn = go (scn == 1)
  where
    go : (b : Bool) → cond b 8 0 ≤ 8
    go true = omega arith
    go false = omega arith

-- one scanline more
pub length_next : (i : Picture) (k : ℕ)
    → length (lines_of i (suc k)) ≡ length (lines_of i k) + (head_size i.scn + length (body_bytes i.dtc i.scn (row_at i k)))
unfolding lines_of
length_next i k =
    length-append (lines_of i k) (line_bytes i.dtc i.scn (written_number k) (row_at i k))
    ∙ ap (λ (n : ℕ). length (lines_of i k) + n) (length-line i.dtc i.scn (written_number k) (row_at i k))

-- no scanline is longer than this, with the most pixels that a row can have
row_most : (i : Picture) (k : ℕ) → i.ppl ≤ 65535 → head_size i.scn + length (body_bytes i.dtc i.scn (row_at i k)) ≤ 262152
row_most i k h =
    let e = length-take i.ppl (drop (k * i.ppl) i.pixels) in
    omega (arith, head_most i.scn, body_most i.dtc i.scn (row_at i k), e)

pub lines_most : (i : Picture) → i.ppl ≤ 65535 → (k : ℕ) → length (lines_of i k) ≤ 262152 * k
unfolding lines_of
lines_most i h zero = omega arith
lines_most i h (suc k) = omega (arith, length_next i k, row_most i k h, lines_most i h k)
