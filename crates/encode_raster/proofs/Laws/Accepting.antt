-- A picture whose fields are not rejected, and the rules that are left for its pixels and sizes.
use Rattle.std.specs.Prelude.{◌≡◌, ℕ, zero, suc, ◌+◌, ◌*◌, ◌≤◌, Bool, true, false, cond, ◌&&◌, ◌||◌, List, [], ◌∷◌, ◌++◌, length, take, ◌==◌, nat_lt}
use Rattle.std.proofs.Math.Path.{refl, ap}
use Rattle.std.proofs.Common.{◌∙◌, arith, eqb-true, ltb-false}
use Rattle.std.proofs.lemmas.Bool.{false≢true, not-false}
use Rattle.std.proofs.Math.ListN.{length-append}
use Rattle.units.specs.Rules.{rule, first}
use Rattle.units.proofs.Laws.Rules.{none_holds, both_none}
use Rattle.units.specs.Counts.{n_blocks, bytes_of_blocks}
use Rattle.units.specs.Words.{word_count}
use Rattle.codec.specs.Table.{codec_of, body_bytes}
use Rattle.limits.specs.Limits.{limit_rules}
use Rattle.limits.proofs.Laws.Limits.{Within, within}
use Rattle.encode_header.specs.declared.Job.{Job}
use Rattle.numbering.specs.Numbering.{written_number}
use Rattle.encode_header.specs.Picture.{row_at}
use Rattle.encode_header.specs.Header.{table_area, header_bytes, header_size}
use Rattle.encode_raster.specs.File.{line_bytes, lines_of, file_bytes}
use Rattle.encode_raster.specs.Writing.{any_above, any_long, length_rules, picture_rules}
use Rattle.encode_answer.specs.Sizes.{most_words}
use Rattle.encode_header.specs.Job.{job_picture}
use Rattle.encode_header.proofs.Laws.Positions.{length-header}
use Rattle.encode_raster.specs.Laws.Answer.{bare, plan_rules}

pub record Limits (dtc ppl nol slo scn table pixels : ℕ) : Type 0 where
  pub fields : Within dtc slo scn ppl nol
  pub table_known : (table == 0 || table == 768) ≡ true
  pub rows_there : nol * ppl ≤ pixels

pub limits : (dtc ppl nol slo scn table pixels : ℕ)
    → first (limit_rules dtc slo scn ppl nol ++ length_rules ppl nol table pixels) ≡ 0 → Limits dtc ppl nol slo scn table pixels
limits dtc ppl nol slo scn table pixels e =
    let parts = both_none (limit_rules dtc slo scn ppl nol) (length_rules ppl nol table pixels) tt e in
    let lengths = none_holds (length_rules ppl nol table pixels) tt parts.1 in
    record {
      fields = within dtc slo scn ppl nol parts.0;
      table_known = not-false (table == 0 || table == 768) lengths.0;
      rows_there = ltb-false pixels (nol * ppl) lengths.1.0;
    }

-- no header is longer than three blocks
pub head_most : (table : List ℕ) {head : ℕ} → (length table == 0 || length table == 768) ≡ true → head ≡ (header_size table).0
    → head ≤ (bytes_of_blocks (n_blocks 3)).0
head_most table known e = rw e (go (length table == 0) (length table == 768) refl known)
  where
    go : (a b : Bool) → (length table == 768) ≡ b → (a || b) ≡ true → 768 + length (cond a (table_area []) table) ≤ 1536
    go true b t k = omega arith
    go false true t k = omega (arith, eqb-true (length table) 768 t)
    go false false t k = absurd (false≢true k)

-- no scanline goes by the table
module _ (j : Job) (table pixels : List ℕ) where
  pub lines_bare : (k : ℕ) → lines_of (job_picture j table pixels) k ≡ lines_of (bare j pixels) k
  unfolding lines_of
  lines_bare zero = refl
  lines_bare (suc k) = ap (λ (l : List ℕ). l ++ line_bytes j.dtc j.scn (written_number k) (row_at (bare j pixels) k)) (lines_bare k)

  long_bare : (k : ℕ) → any_long (job_picture j table pixels) k ≡ any_long (bare j pixels) k
  unfolding any_long
  long_bare zero = refl
  long_bare (suc k) = ap (λ (b : Bool). b || nat_lt most_words.0 (word_count (body_bytes j.dtc j.scn (row_at (bare j pixels) k))).0) (long_bare k)

  pub file-size : length (file_bytes (job_picture j table pixels)) ≡ (header_size table).0 + length (lines_of (bare j pixels) j.nol)
  unfolding file_bytes
  file-size =
      length-append (header_bytes (job_picture j table pixels)) (lines_of (job_picture j table pixels) j.nol)
      ∙ (λ k. length-header (job_picture j table pixels) k + length (lines_bare j.nol k))

  pub rules_bare : (room : ℕ) → picture_rules (job_picture j table pixels) room ≡ plan_rules j pixels (header_size table).0 room
  rules_bare room k =
      rule 26 (any_above (codec_of j.dtc).highest (take (j.nol * j.ppl) pixels)) ∷
      rule 27 (j.scn == 1 && long_bare j.nol k) ∷
      rule 10 (nat_lt 2147483647 (file-size k)) ∷
      rule 28 (nat_lt room (file-size k)) ∷
      []
