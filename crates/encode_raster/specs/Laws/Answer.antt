-- What the functions of the writer say to each other.
use Rattle.std.specs.Prelude.{◌≡◌, ℕ, ◌+◌, ◌*◌, ◌≤◌, false, cond, ◌&&◌, List, [], ◌∷◌, length, take, ◌==◌}
use Rattle.units.specs.Rules.{Rule, rule}
use Rattle.units.specs.Words.{word_count}
use Rattle.codec.specs.Table.{codec_of, body_bytes}
use Rattle.limits.specs.Limits.{most_pixels, most_lines}
use Rattle.encode_header.specs.declared.Job.{Job}
use Rattle.encode_raster.specs.declared.Measure.{Measure}
use Rattle.encode_header.specs.Picture.{Picture}
use Rattle.encode_raster.specs.File.{line_bytes, lines_of}
use Rattle.encode_raster.specs.Writing.{any_above, any_long}
use Rattle.encode_answer.specs.Sizes.{most_words, size_rules}
use Rattle.encode_header.specs.Job.{job_picture}

-- the fields of a picture that are within the limits
abbrev pub job_of : ℕ → ℕ → ℕ → ℕ → ℕ → ℕ → Job
job_of dtc ppl nol slo scn drs = record { dtc = dtc; ppl = ppl; nol = nol; slo = slo; scn = scn; drs = drs }

-- the picture of a job without its table, by which no scanline goes
abbrev pub bare : Job → List ℕ → Picture
bare j pixels = job_picture j [] pixels

-- the bytes of a scanline header
abbrev pub head_size : ℕ → ℕ
head_size scn = cond (scn == 1) 8 0

-- the rules of the pixels and the sizes, for a header of `head` bytes and an output of `room`
abbrev pub plan_rules : Job → List ℕ → ℕ → ℕ → List Rule
plan_rules j pixels head room =
    rule 26 (any_above (codec_of j.dtc).highest (take (j.nol * j.ppl) pixels)) ∷
    size_rules j.scn (any_long (bare j pixels) j.nol) (head + length (lines_of (bare j pixels) j.nol)) room

-- the limits by which nothing overflows and every row is there
pub record Within (j : Job) (pixels : List ℕ) : Type 0 where
  pub ppl_most : j.ppl ≤ most_pixels
  pub nol_most : j.nol ≤ most_lines
  pub rows_there : j.nol * j.ppl ≤ length pixels

-- the first n scanlines, measured
pub record Measured (i : Picture) (n : ℕ) (m : Measure) : Type 0 where
  pub size : m.size.0 ≡ length (lines_of i n)
  pub long : m.long ≡ any_long i n

-- a scanline fits the output, and its body the count of a scanline header
pub record LineFits (t scn number : ℕ) (row out : List ℕ) : Type 0 where
  pub room : length (line_bytes t scn number row) ≤ length out
  pub counted : scn ≡ 1 → (word_count (body_bytes t scn row)).0 ≤ most_words.0

pub record LinesFit (i : Picture) (n : ℕ) (out : List ℕ) : Type 0 where
  pub room : length (lines_of i n) ≤ length out
  pub counted : (i.scn == 1 && any_long i n) ≡ false
