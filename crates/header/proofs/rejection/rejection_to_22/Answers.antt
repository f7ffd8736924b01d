use Rattle.std.proofs.Common.{List, ◌++◌, ◌≡◌, ◌∙◌, ap, ℕ}
use Rattle.units.specs.Counts.{bytes_in}
use Rattle.units.specs.Rules.{Rule, first}
use Rattle.fields.specs.declared.Fields.{Fields}
use Rattle.fields.specs.Fields.{fields_of}
use Rattle.limits.proofs.Laws.Parts.{refused, allowed}
use Rattle.header.specs.Rejections.{rejection_to22, frame_rules, field_rules, color_table_rules}
use Rattle.header.proofs.rejection.rejection_to_22.Goals as goal

-- the parts of the table after the frame
abbrev from-16 : List ℕ → Fields → List Rule
from-16 f h = field_rules h ++ color_table_rules f h

-- the table by the fields that were read
by-fields : (f : List ℕ) {h : Fields} → h ≡ fields_of f → {n : ℕ} → n ≡ first (frame_rules (bytes_in f) h ++ from-16 f h) → n ≡ rejection_to22 f
unfolding rejection_to22
by-fields f read e = e ∙ ap (λ (x : Fields). first (frame_rules (bytes_in f) x ++ from-16 f x)) read

pub returns-in_err-frame_rejection : goal.returns-in_err-frame_rejection
returns-in_err-frame_rejection c =
    let f = c.args.file.now in
    let h = c.fields_of-h.result in
    by-fields f c.fields_of-h.ensures (refused (frame_rules (bytes_in f) h) (from-16 f h) _ _ c.from_residual.ensures.1 c.in_err-frame_rejection.ensures)

pub returns-in_err-field_rejection : goal.returns-in_err-field_rejection
returns-in_err-field_rejection c =
    let f = c.args.file.now in
    let h = c.fields_of-h.result in
    by-fields f c.fields_of-h.ensures
    (allowed (frame_rules (bytes_in f) h) (from-16 f h) tt c.in_ok-frame_rejection.ensures
    (refused (field_rules h) (color_table_rules f h) _ _ c.from_residual-in_err-field_rejection.ensures.1 c.in_err-field_rejection.ensures))

pub returns : goal.returns
returns c =
    let f = c.args.file.now in
    let h = c.fields_of-h.result in
    by-fields f c.fields_of-h.ensures
    (allowed (frame_rules (bytes_in f) h) (from-16 f h) tt c.in_ok-frame_rejection.ensures
    (allowed (field_rules h) (color_table_rules f h) tt c.in_ok-field_rejection.ensures c.table_rejection.ensures))
