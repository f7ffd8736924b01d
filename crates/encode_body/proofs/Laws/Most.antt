-- How long a body is at most.
use Rattle.std.specs.Prelude.{ℕ, ◌+◌, ◌*◌, ◌%◌, ◌≤◌, Bool, true, false, cond, ◌&&◌, List, [], ◌∷◌, ◌++◌, length, eqb}
use Rattle.std.proofs.Common.{zero-le, arith}
use Rattle.units.specs.LittleEndian.{low_bytes}
use Rattle.units.proofs.Laws.LittleEndian.{length-low}
use Rattle.units.proofs.Laws.Stores.{length-bytes}
use Rattle.packing.specs.Packing.{packed_count, packed_words}
use Rattle.packing.proofs.Laws.Numbers.{length_packed}
use Rattle.codec.specs.Codec.{Codec}
use Rattle.codec.specs.Table.{body_bytes}
use Rattle.codec.specs.PackedPixels.{packed_codec}
use Rattle.codec.specs.BytePixels.{byte_body, byte_codec}
use Rattle.codec.specs.WordPixels.{word_codec}
use Rattle.codec.specs.RunPixels.{run_words, run_codec}
use Rattle.codec.specs.PairPixels.{pair_words, pair_codec}
use Rattle.codec.proofs.Laws.Table.{every}
use Rattle.codec.proofs.Laws.RunWriting.{length-run_words}
use Rattle.codec.proofs.Laws.PairWriting.{length-pair_words}
use Rattle.encode_body.proofs.Laws.Bytes.{length_spare}

-- at most four bytes for each pixel, and two words more
abbrev Most : Codec → Type 0
Most c = (scn : ℕ) (row : List ℕ) → length (c.body scn row) ≤ 4 * length row + 4

packed_most : Most packed_codec
packed_most scn row =
    let n = packed_count (length row) in
    omega (arith, length-bytes (packed_words n row), length_packed n row)

byte_most : Most byte_codec
unfolding byte_body
byte_most scn row = go (eqb scn 1 && eqb (length row % 2) 1)
  where
    go : (b : Bool) → length (cond b (low_bytes row ++ (0 ∷ [])) (low_bytes row)) ≤ 4 * length row + 4
    go true = omega (arith, length_spare row)
    go false = omega (arith, length-low row)

word_most : Most word_codec
word_most scn row = omega (arith, length-bytes row)

run_most : Most run_codec
run_most scn row = omega (arith, length-bytes (run_words row), length-run_words row)

pair_most : Most pair_codec
pair_most scn row = omega (arith, length-bytes (pair_words row), length-pair_words row)

pub body_most : (t scn : ℕ) (row : List ℕ) → length (body_bytes t scn row) ≤ 4 * length row + 4
body_most t = every Most t (packed_most, (byte_most, (word_most, (run_most, (pair_most, tt))))) (λ scn row. zero-le)
