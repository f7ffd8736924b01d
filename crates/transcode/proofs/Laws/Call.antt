-- Laws of the move's call: its number, the written length, and the output.
use Rattle.std.specs.Prelude.{ℕ, ◌≤◌, ◌≡◌, List, ◌++◌, length, take}
use Rattle.std.proofs.Common.{sym, ◌∙◌}
use borrow.Author.Tests.{ltb-false}
use Rattle.units.proofs.Laws.Rules.{NoneHolds, none_holds, both_none, first_from}
use Rattle.header.specs.Rejections.{rules_to22}
use Rattle.layout.specs.Chain.{sheet_of}
use Rattle.encode_answer.specs.Sizes.{WriteNumbers}
use Rattle.encode_answer.proofs.Laws.Call as call
use Rattle.transcode_parts.specs.Rules.{unmoved_rules}
use Rattle.transcode.specs.File.{transcoded}
use Rattle.transcode.specs.Transcoding.{line_rules, transcode_rejection, transcoding, out_transcoded}

module _ (f : List ℕ) (room : ℕ) where
  none : transcode_rejection f room ≡ 0 → NoneHolds (line_rules (sheet_of f) (length (transcoded f)) room)
  unfolding transcode_rejection
  none e =
      let r = sheet_of f in
      let rules = line_rules r (length (transcoded f)) room in
      none_holds rules tt (both_none (unmoved_rules r.data_type) rules tt (both_none (rules_to22 f) (unmoved_rules r.data_type ++ rules) tt e).1).1

  rejected_from : (transcode_rejection f room ≡ 0 → ⊥) → 10 ≤ transcode_rejection f room
  unfolding transcode_rejection
  rejected_from h =
      let r = sheet_of f in
      first_from 10 (rules_to22 f ++ (unmoved_rules r.data_type ++ line_rules r (length (transcoded f)) room)) tt h

  module _ (a : WriteNumbers) (e : a ≡ transcoding f room) where
    pub number_is : a.number ≡ transcode_rejection f room
    unfolding transcoding
    number_is = call.number_is (transcode_rejection f room) (transcoded f) (transcoded f) a e

    pub number-from : (a.number ≡ 0 → ⊥) → 10 ≤ a.number
    number-from h = rw number_is (rejected_from (λ z. h (number_is ∙ z)))

    module _ (z : a.number ≡ 0) where
      ok : transcode_rejection f room ≡ 0
      ok = sym number_is ∙ z

      pub size_is : a.size ≡ length (transcoded f)
      unfolding transcoding
      size_is = call.size_is (transcode_rejection f room) (transcoded f) (transcoded f) a e z

      pub size_fits : a.size ≤ room
      size_fits = rw size_is (ltb-false room (length (transcoded f)) (none ok).1.1.1.1.0)

      pub size_most : a.size ≤ 2147483647
      size_most = rw size_is (ltb-false 2147483647 (length (transcoded f)) (none ok).1.1.1.0)

module _ (f out : List ℕ) where
  pub begins : transcode_rejection f (length out) ≡ 0 → (n : ℕ) (out' : List ℕ) → n ≡ length (transcoded f) → out' ≡ out_transcoded f out
      → take n out' ≡ transcoded f
  unfolding out_transcoded
  begins ok = call.begins (transcode_rejection f (length out)) (transcoded f) out ok

  -- the output's length stays
  pub length_after : length (out_transcoded f out) ≡ length out
  unfolding out_transcoded
  length_after =
      call.length_out (transcode_rejection f (length out)) (transcoded f) out
      (λ ok. ltb-false (length out) (length (transcoded f)) (none f (length out) ok).1.1.1.1.0)
