-- "Writing a sheet", "Order": the rejections of the writer, and what it answers and leaves.
use Rattle.std.specs.Prelude.{ℕ, zero, suc, ◌*◌, Bool, false, not, ◌||◌, List, [], ◌∷◌, ◌++◌, length, ◌==◌, nat_lt}
use Rattle.units.specs.Rules.{Rule, rule, first}
use Rattle.units.specs.Words.{word_count}
use Rattle.codec.specs.Table.{codec_of, body_bytes}
use Rattle.limits.specs.Limits.{limit_rules}
use Rattle.encode_header.specs.Picture.{Picture, picture_pixels, row_at}
use Rattle.encode_answer.specs.Sizes.{most_words, size_rules, WriteNumbers, answer_by, out_by}
use Rattle.encode_raster.specs.File.{file_bytes}

-- some pixel is above m
unfoldable pub any_above : ℕ → List ℕ → Bool
any_above m [] = false
any_above m (x ∷ r) = nat_lt m x || any_above m r

-- one of the first k bodies has more words than a scanline header can count
unfoldable pub any_long : Picture → ℕ → Bool
any_long i zero = false
any_long i (suc k) = any_long i k || nat_lt most_words.0 (word_count (body_bytes i.dtc i.scn (row_at i k))).0

-- for a table and pixels of these lengths
abbrev pub length_rules : ℕ → ℕ → ℕ → ℕ → List Rule
length_rules ppl nol table pixels =
    rule 21 (not (table == 0 || table == 768)) ∷
    rule 23 (nat_lt pixels (nol * ppl)) ∷
    []

abbrev pub given_rules : Picture → List Rule
given_rules i =
    limit_rules i.dtc i.slo i.scn i.ppl i.nol
    ++ length_rules i.ppl i.nol (length i.table) (length i.pixels)

-- for an output of `room` bytes
abbrev pub picture_rules : Picture → ℕ → List Rule
picture_rules i room =
    rule 26 (any_above (codec_of i.dtc).highest (picture_pixels i)) ∷ size_rules i.scn (any_long i i.nol) (length (file_bytes i)) room

unfoldable pub writer_rejection : Picture → ℕ → ℕ
writer_rejection i room = first (given_rules i ++ picture_rules i room)

-- the number of the rejection or 0, and the written length
unfoldable pub writing : Picture → ℕ → WriteNumbers
writing i room = answer_by (writer_rejection i room) (length (file_bytes i))

-- the output after the call
unfoldable pub out_after : Picture → List ℕ → List ℕ
out_after i out = out_by (writer_rejection i (length out)) (file_bytes i) out
