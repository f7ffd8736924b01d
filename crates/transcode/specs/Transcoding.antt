-- Paper 02, P5: "the move gives a file's refusals to 22, then 30 for a type other than 1 or 9, 41 for a refused line, 42 for an offset
-- not 0, then 27, 10, 28", and what it answers and leaves.
use Rattle.std.specs.Prelude.{ℕ, zero, suc, Bool, false, not, ◌&&◌, ◌||◌, List, ◌++◌, length, eqb, ltb}
use Rattle.units.specs.Rules.{Rule, first}
use Rattle.units.specs.Words.{word_count}
use Rattle.codec.specs.Table.{body_bytes}
use Rattle.header.specs.Rejections.{rules_to22}
use Rattle.layout.specs.Scanline.{pixel_offset}
use Rattle.layout.specs.Chain.{Raster, sheet_of, head_at, reading_at}
use Rattle.encode_answer.specs.Sizes.{most_words, WriteNumbers, answer_by, out_by}
use Rattle.transcode_parts.specs.Headers.{other_type}
use Rattle.transcode_parts.specs.Rules.{unmoved_rules, found_rules}
use Rattle.transcode.specs.File.{transcoded}

-- one of the first k scanlines has what is looked for
unfoldable pub any_line : (ℕ → Bool) → ℕ → Bool
any_line has zero = false
any_line has (suc k) = any_line has k || has k

-- it is refused
abbrev pub is_refused : Raster → ℕ → Bool
is_refused r k = not (eqb (reading_at r k).status 0)

-- it starts partway
abbrev pub is_partway : Raster → ℕ → Bool
is_partway r k = eqb r.scn 1 && not (eqb (pixel_offset (head_at r k)) 0)

-- its new body is too long for a scanline header to count
abbrev pub is_long : Raster → ℕ → Bool
is_long r k = ltb most_words.0 (word_count (body_bytes (other_type r.data_type) r.scn (reading_at r k).row)).0

-- each over the whole sheet, for a new file of `size` bytes and an output of `room`
abbrev pub line_rules : Raster → ℕ → ℕ → List Rule
line_rules r size room =
    found_rules r.scn (any_line (is_refused r) r.nol) (any_line (is_partway r) r.nol) (any_line (is_long r) r.nol) size room

unfoldable pub transcode_rejection : List ℕ → ℕ → ℕ
transcode_rejection f room =
    let r = sheet_of f in
    first (rules_to22 f ++ (unmoved_rules r.data_type ++ line_rules r (length (transcoded f)) room))

-- the number of the rejection or 0, and the written length
unfoldable pub transcoding : List ℕ → ℕ → WriteNumbers
transcoding f room = answer_by (transcode_rejection f room) (length (transcoded f))

-- the output after the call
unfoldable pub out_transcoded : List ℕ → List ℕ → List ℕ
out_transcoded f out = out_by (transcode_rejection f (length out)) (transcoded f) out
