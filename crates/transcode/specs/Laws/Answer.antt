-- What the functions of the move say to each other.
use Rattle.std.specs.Prelude.{ℕ, ◌+◌, ◌*◌, ◌≤◌, ◌≡◌, false, not, ◌&&◌, List, ◌++◌, length, drop, eqb}
use Rattle.units.specs.Rules.{first}
use Rattle.units.specs.Words.{word_count}
use Rattle.codec.specs.Table.{body_bytes}
use Rattle.limits.specs.Limits.{most_pixels, most_lines}
use Rattle.header.specs.Rejections.{rules_to22}
use Rattle.layout.specs.Scanline.{head_of, pixel_offset, step_of, reading_of}
use Rattle.layout.specs.declared.RasterLayout.{RasterLayout}
use Rattle.layout.specs.Chain.{Raster, sheet_of, raster_of}
use Rattle.encode_answer.specs.Sizes.{most_words}
use Rattle.transcode_parts.specs.Rules.{unmoved_rules}
use Rattle.transcode.specs.declared.LineSizes.{LineSizes}
use Rattle.transcode.specs.declared.LineSurvey.{LineSurvey}
use Rattle.transcode.specs.declared.Survey.{Survey}
use Rattle.transcode.specs.File.{new_line, new_lines}
use Rattle.transcode.specs.Transcoding.{any_line, is_refused, is_partway, is_long}

-- the row of a scanline, from the bytes that are left
abbrev pub old_row : ℕ → ℕ → ℕ → ℕ → List ℕ → List ℕ
old_row scn t p number rest = (reading_of scn t p number rest).row

-- the new file's size
abbrev pub new_size : Raster → ℕ
new_size r = r.data_start + length (new_lines r r.nol)

-- the limits by which nothing overflows, and a row of the raster's width
pub record Ready (r : Raster) (row : List ℕ) : Type 0 where
  pub starts : r.data_start ≤ length r.bytes
  pub nol_most : r.nol ≤ most_lines
  pub ppl_most : r.ppl ≤ most_pixels
  pub wide : length row ≡ r.ppl

-- a good scanline, surveyed
pub record IsSurvey (scn t p number to : ℕ) (rest : List ℕ) (s : LineSurvey) : Type 0 where
  pub used : s.used.0 ≡ (step_of scn t p rest).used.0
  pub partway : s.partway ≡ (eqb scn 1 && not (eqb (pixel_offset (head_of rest)) 0))
  pub body : s.body.0 ≡ length (body_bytes to scn (old_row scn t p number rest))

-- all of them
pub record Surveyed (r : Raster) (s : Survey) : Type 0 where
  pub refused : s.refused ≡ any_line (is_refused r) r.nol
  pub partway : s.refused ≡ false → s.partway ≡ any_line (is_partway r) r.nol
  pub long : s.refused ≡ false → s.long ≡ any_line (is_long r) r.nol
  pub size : s.refused ≡ false → s.size.0 ≡ length (new_lines r r.nol)
  pub most : s.size.0 ≤ 262152 * r.nol

-- a new scanline fits the output, and its body the count of a scanline header, which is there
pub record LineFits (scn to : ℕ) (hd row out : List ℕ) : Type 0 where
  pub eight : scn ≡ 1 → length hd ≡ 8
  pub room : length (new_line scn to hd row) ≤ length out
  pub counted : scn ≡ 1 → (word_count (body_bytes to scn row)).0 ≤ most_words.0

pub record IsWritten (scn t p number to : ℕ) (rest out : List ℕ) (s : LineSizes) (now : List ℕ) : Type 0 where
  pub used : s.used.0 ≡ (step_of scn t p rest).used.0
  pub size : s.size.0 ≡ length (new_line scn to (head_of rest) (old_row scn t p number rest))
  pub out_is : now ≡ new_line scn to (head_of rest) (old_row scn t p number rest) ++ drop (length (new_line scn to (head_of rest) (old_row scn t p number rest))) out

pub record LinesFit (r : Raster) (out : List ℕ) : Type 0 where
  pub good : any_line (is_refused r) r.nol ≡ false
  pub counted : (eqb r.scn 1 && any_line (is_long r) r.nol) ≡ false
  pub room : length (new_lines r r.nol) ≤ length out

-- a file that no rule of its own rejects, its layout, and a row of its width
pub record Movable (f : List ℕ) (l : RasterLayout) (row : List ℕ) : Type 0 where
  pub accepted : first (rules_to22 f ++ unmoved_rules (sheet_of f).data_type) ≡ 0
  pub laid : raster_of l ≡ sheet_of f
  pub wide : length row ≡ l.ppl
