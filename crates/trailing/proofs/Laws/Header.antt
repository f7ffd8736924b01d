-- A file that is not rejected and one with the same bytes below the raster data: the second has the same header, and is not rejected
-- either.
use Rattle.std.specs.Prelude.{ℕ, ◌≤◌, ◌<◌, ◌≡◌, List, ◌++◌, get_or}
use Rattle.std.proofs.Common.{◌∙◌, arith, le-ltb}
use Rattle.std.proofs.Math.Path.{ap}
use Rattle.std.proofs.Math.ListN.{length}
use Rattle.units.specs.declared.Bytes.{Bytes}
use Rattle.units.specs.Counts.{bytes_of_blocks, bytes_in}
use Rattle.units.specs.Rules.{first}
use Rattle.units.proofs.Laws.Rules.{none_holds, both_none, first_later}
use Rattle.fields.specs.declared.Fields.{Fields}
use Rattle.fields.specs.Fields.{fields_of, header_blocks}
use Rattle.header.specs.Rejections.{frame_rules, field_rules, color_table_rules, rejection_to22}
use Rattle.header.specs.Reading.{field_numbers, header_reading}
use Rattle.header.proofs.Laws.Accepted.{Accepted, accepted}
use Rattle.layout.specs.Chain.{sheet_of}
use Rattle.isolation.proofs.Laws.Headers.{same_fields, rules_but_length}

-- the rules that look at the length, where another length is as good
pub frame_holds : (h : Fields) (size other : Bytes) → first (frame_rules size h) ≡ 0
    → other.0 ≤ 2147483647 → 1024 ≤ other.0 → (bytes_of_blocks (header_blocks h)).0 ≤ other.0 → first (frame_rules other h) ≡ 0
frame_holds h size other e short long inside =
    let n = none_holds (frame_rules size h) tt e in
    simp (
      le-ltb 2147483647 other.0 short,
      le-ltb other.0 1024 long,
      n.1.1.0,
      n.1.1.1.0,
      n.1.1.1.1.0,
      le-ltb other.0 (bytes_of_blocks (header_blocks h)).0 inside,
      n.1.1.1.1.1.1.0,
    )

module _ (f g : List ℕ) (ok : rejection_to22 f ≡ 0) (same : (i : ℕ) → i < (sheet_of f).data_start → get_or g i 0 ≡ get_or f i 0) where
  a : Accepted f
  a = accepted f ok

  deep : 1024 ≤ (sheet_of f).data_start
  deep = omega (arith, a.blocks)

  pub same_header : fields_of g ≡ fields_of f
  same_header = same_fields g f (sheet_of f).data_start same deep

  pub also_accepted : (sheet_of f).data_start ≤ length g → length g ≤ 2147483647 → rejection_to22 g ≡ 0
  unfolding rejection_to22
  also_accepted inside short =
      let h = fields_of f in
      let rest = field_rules h ++ color_table_rules f h in
      let parts = both_none (frame_rules (bytes_in f) h) rest tt ok in
      let long : 1024 ≤ length g = omega (arith, deep) in
      ap first (rules_but_length g f (sheet_of f).data_start same deep a.entries)
      ∙ first_later (frame_rules (bytes_in g) h) rest tt (frame_holds h (bytes_in f) (bytes_in g) parts.0 short long inside)
      ∙ parts.1

  pub same_reading : rejection_to22 g ≡ 0 → header_reading g ≡ header_reading f
  same_reading ok₂ = rw (ok₂, ok) (ap field_numbers same_header)
