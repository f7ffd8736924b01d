-- What holds of a file that is not rejected: no rule of the table does.
use Rattle.std.specs.Prelude.{ℕ, ◌≤◌, ◌<◌, ◌≡◌, Bool, false, ◌&&◌, List, ◌++◌, length, eqb, ltb}
use Rattle.std.proofs.Common.{arith, ltb-false, eqb-true, eq-eqb}
use Rattle.std.proofs.lemmas.Bool.{not-false}
use Rattle.units.proofs.Laws.Rules.{none_holds, both_none}
use Rattle.units.proofs.Laws.Numbers.{above_zero}
use Rattle.units.specs.Counts.{words_of_blocks, bytes_of_blocks, bytes_in}
use Rattle.fields.specs.Fields.{fields_of, header_words, header_blocks}
use Rattle.header.specs.Rejections.{Rules13, frame_rules, field_rules, color_table_rules, rejection_to22, shares_slot, entry_start}
use Rattle.limits.proofs.Laws.Limits.{Within, within}

pub record Accepted (f : List ℕ) : Type 0 where
  pub short : length f ≤ 2147483647
  pub words : (words_of_blocks (header_blocks (fields_of f))).0 ≡ (header_words (fields_of f)).0
  pub blocks : 2 ≤ (header_blocks (fields_of f)).0
  pub inside : (bytes_of_blocks (header_blocks (fields_of f))).0 ≤ length f
  pub limits : Within (fields_of f).dtc (fields_of f).slo (fields_of f).scn (fields_of f).ppl (fields_of f).nol
  pub ctv : (fields_of f).ctv ≤ 2
  pub igds : (fields_of f).ctv ≡ 1 → 3 ≤ (header_blocks (fields_of f)).0
  pub environ : (fields_of f).ctv ≡ 2 → (0 < (fields_of f).cte) × ((fields_of f).cte ≤ 256)
  pub entries : (fields_of f).ctv ≡ 2 → entry_start (fields_of f).cte ≤ (bytes_of_blocks (header_blocks (fields_of f))).0
  pub distinct : (fields_of f).ctv ≡ 2 → shares_slot f (fields_of f).cte ≡ false

second : (a b : ℕ) (t : Bool) → (eqb a b && t) ≡ false → a ≡ b → t ≡ false
second a b t h e = rw (eq-eqb a b e) at h

pub accepted : (f : List ℕ) → rejection_to22 f ≡ 0 → Accepted f
unfolding rejection_to22
accepted f e =
    let h = fields_of f in
    let n = header_blocks h in
    let w = (words_of_blocks n).0 in
    let b = (bytes_of_blocks n).0 in
    -- the three parts of the table, and their rules
    let parts = both_none (frame_rules (bytes_in f) h) (field_rules h ++ color_table_rules f h) tt e in
    let others = both_none (field_rules h) (color_table_rules f h) tt parts.1 in
    let size = none_holds (frame_rules (bytes_in f) h) tt parts.0 in
    let table = none_holds (color_table_rules f h) tt others.1 in
    let blocks = size.1.1.1 in
    let entries = table.1.1 in
    record {
      short = ltb-false 2147483647 (length f) size.0;
      words = eqb-true w (header_words h).0 (not-false (eqb w (header_words h).0) blocks.0);
      blocks = ltb-false n.0 2 blocks.1.0;
      inside = ltb-false (length f) b blocks.1.1.0;
      limits = within h.dtc h.slo h.scn h.ppl h.nol others.0;
      ctv = ltb-false 2 h.ctv table.0;
      igds = λ i. ltb-false n.0 3 (second h.ctv 1 (ltb n.0 3) table.1.0 i);
      environ =
          λ i. (
            above_zero h.cte (second h.ctv 2 (eqb h.cte 0) entries.0 i),
            ltb-false 256 h.cte (second h.ctv 2 (ltb 256 h.cte) entries.1.0 i),
          );
      entries = λ i. ltb-false b (entry_start h.cte) (second h.ctv 2 (ltb b (entry_start h.cte)) entries.1.1.0 i);
      distinct = λ i. second h.ctv 2 (shares_slot f h.cte) entries.1.1.1.0 i;
    }

pub rules_13 : Rules13
rules_13 h short = (
  (λ r. ((header_blocks h).0, r.1, (omega arith), (omega arith))),
  (λ w. let n = w.0 in let l = w.1 in let u = w.2 in let e = w.3 in (omega arith, omega arith)),
)
