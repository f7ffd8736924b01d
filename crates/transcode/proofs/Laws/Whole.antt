-- The whole call: what a rejected one answers and leaves, and what one that is not has room for, answers and leaves.
use Rattle.std.specs.Prelude.{ℕ, ◌+◌, ◌-◌, ◌≤◌, ◌≡◌, refl, List, [], ◌++◌, take, Result, Ok, Err}
use Rattle.std.specs.Result.{IsErrAnd}
use Rattle.std.proofs.Math.Path.{sym, ap, subst⁻¹}
use Rattle.std.proofs.Common.{◌∙◌, subst, append_assoc, arith, ltb-false, ne_eqb, length-drop, length-take-le}
use borrow.Rule.Slice.PartMut.{mid_of, put_mid}
use Rattle.std.proofs.Math.ListN.{length, drop, length-append}
use Rattle.std.proofs.Math.Seq.{length-sets}
use Rattle.refusals.specs.declared.Rejection.{Rejection}
use Rattle.refusals.specs.Rejections.{number_of}
use Rattle.units.specs.declared.Bytes.{Bytes}
use Rattle.units.specs.Over.{over}
use Rattle.units.specs.Rules.{Rule, first}
use Rattle.units.specs.Words.{two_bytes}
use Rattle.units.proofs.Laws.Over.{over_fits}
use Rattle.units.proofs.Laws.Parts.{tail_is, put_next}
use Rattle.units.proofs.Laws.Rules.{NoneHolds, none_holds, both_none, first_here, first_later}
use Rattle.header.specs.Rejections.{rules_to22, rejection_to22}
use Rattle.header.proofs.Laws.Accepted.{Accepted, accepted}
use Rattle.layout.specs.declared.RasterLayout.{RasterLayout}
use Rattle.layout.specs.Chain.{Raster, sheet_of, raster_of}
use Rattle.encode_answer.specs.Answer.{write_numbers}
use Rattle.encode_answer.specs.Sizes.{WriteNumbers, answer_by}
use Rattle.encode_answer.proofs.Laws.Call as call
use Rattle.transcode_parts.specs.Headers.{other_type, with_type}
use Rattle.transcode_parts.specs.Rules.{unmoved_rules}
use Rattle.transcode.specs.File.{carried_header, new_lines, transcoded}
use Rattle.transcode.specs.Transcoding.{line_rules, transcode_rejection, transcoding, out_transcoded}
use Rattle.transcode.specs.Laws.Answer.{new_size, Movable, Ready, LinesFit}
use Rattle.transcode.proofs.Laws.Writing.{word_first}

-- what a `?` passes on
pub passed : (r : Result Bytes Rejection) (y : Rejection) → IsErrAnd r (λ z. z ≡ y) → write_numbers r ≡ record { number = number_of y; size = 0 }
passed (Ok x) y e = elim e [ ]
passed (Err z) y e = ap (λ (x : Rejection). record { number = number_of x; size = 0 }) e

-- the answer and the output of a call
abbrev Transcoded : List ℕ → List ℕ → WriteNumbers → List ℕ → Type 0
Transcoded f out a now = (a ≡ transcoding f (length out)) × (now ≡ out_transcoded f out)

-- What is known when the header of a raster r is carried over: the scanlines fit what is lent for them, and end the call.
pub record Carried (r : Raster) (f out : List ℕ) (a : WriteNumbers) (now : List ℕ) : Type 0 where
  pub start_within : r.data_start ≤ length now
  pub rest_fits : LinesFit r (mid_of r.data_start (length now - r.data_start) now)
  pub by_lines : {part : List ℕ}
      → (let lines = new_lines r r.nol in part ≡ lines ++ drop (length lines) (mid_of r.data_start (length now - r.data_start) now))
      → Transcoded f out a (put_mid r.data_start (length now - r.data_start) now part)

module _ (f out : List ℕ) {n : ℕ} (number : n ≡ first (rules_to22 f ++ unmoved_rules (sheet_of f).data_type)) where
  abbrev r : Raster
  r = sheet_of f

  abbrev front : List Rule
  front = rules_to22 f ++ unmoved_rules r.data_type

  abbrev behind : List Rule
  behind = line_rules r (length (transcoded f)) (length out)

  rules_are : transcode_rejection f (length out) ≡ first (front ++ behind)
  unfolding transcode_rejection
  rules_are = ap first (sym (append_assoc (rules_to22 f) (unmoved_rules r.data_type) behind))

  -- rejected by the file
  pub by_file : (n ≡ 0 → ⊥) → Transcoded f out (record { number = n; size = 0 }) out
  unfolding transcoding out_transcoded
  by_file some =
      call.refused (transcode_rejection f (length out)) (transcoded f) out (record { number = n; size = 0 })
      (number ∙ sym (rules_are ∙ first_here front behind (λ z. some (number ∙ z)))) some refl

  module _ (none : n ≡ 0) where
    file_ok : rejection_to22 f ≡ 0
    unfolding rejection_to22
    file_ok = (both_none (rules_to22 f) (unmoved_rules r.data_type) tt (sym number ∙ none)).0

    a₀ : Accepted f
    a₀ = accepted f file_ok

    ready : (row : List ℕ) → length row ≡ r.ppl → Ready r row
    ready row l = record { starts = a₀.inside; nol_most = a₀.limits.nol_most; ppl_most = a₀.limits.ppl_most; wide = l }

    ppl_most : r.ppl ≤ 65535
    ppl_most = a₀.limits.ppl_most

    length_carried : length (carried_header f) ≡ r.data_start
    length_carried =
        length-sets (take r.data_start f) 4 (two_bytes (other_type r.data_type)) ∙ length-take-le r.data_start f a₀.inside

    size_is : length (transcoded f) ≡ new_size r
    unfolding transcoded
    size_is =
        length-append (carried_header f) (new_lines r r.nol) ∙ ap (λ (m : ℕ). m + length (new_lines r r.nol)) length_carried

    rejection_is : transcode_rejection f (length out) ≡ first (line_rules r (new_size r) (length out))
    rejection_is =
        rules_are
        ∙ first_later front behind tt (sym number ∙ none)
        ∙ ap (λ (m : ℕ). first (line_rules r m (length out))) size_is

    module _ {a : WriteNumbers} (planned : a ≡ answer_by (first (line_rules r (new_size r) (length out))) (new_size r)) where
      answers : a ≡ answer_by (transcode_rejection f (length out)) (length (transcoded f))
      answers = planned ∙ (λ j. answer_by (sym rejection_is j) (sym size_is j))

      answered : a.number ≡ transcode_rejection f (length out)
      answered = call.number_is (transcode_rejection f (length out)) (transcoded f) out a answers

      -- rejected by the scanlines or the sizes
      by_plan : (a.number ≡ 0 → ⊥) → Transcoded f out a out
      unfolding transcoding out_transcoded
      by_plan some = (answers, rw (ne_eqb (transcode_rejection f (length out)) 0 (λ z. some (answered ∙ z))))

      module _ (done : a.number ≡ 0) where
        none_hold : NoneHolds (line_rules r (new_size r) (length out))
        none_hold = none_holds (line_rules r (new_size r) (length out)) tt (sym rejection_is ∙ sym answered ∙ done)

        room : new_size r ≤ length out
        room = ltb-false (length out) (new_size r) none_hold.1.1.1.1.0

        module _ {header now : List ℕ} {to : ℕ} (taken : header ≡ take r.data_start f) (typed : to ≡ other_type r.data_type)
            (put : now ≡ with_type (over header out) to) where
          header_put : now ≡ carried_header f ++ drop r.data_start out
          header_put =
              let l : length (take r.data_start f) ≡ r.data_start = length-take-le r.data_start f a₀.inside in
              put
              ∙ (λ j. with_type (over (taken j) out) (typed j))
              ∙ ap (λ (x : List ℕ). with_type x (other_type r.data_type))
              (over_fits (take r.data_start f) out (omega (arith, room)) ∙ ap (λ (m : ℕ). take r.data_start f ++ drop m out) l)
              ∙ word_first (take r.data_start f) (drop r.data_start out) 4 (other_type r.data_type) (omega (arith, l, a₀.blocks))

          same_length : length now ≡ length out
          same_length =
              omega (arith, ap length header_put, length-append (carried_header f) (drop r.data_start out), length-drop r.data_start out, length_carried, room)

          lines_put : {part : List ℕ}
              → (let lines = new_lines r r.nol in part ≡ lines ++ drop (length lines) (mid_of r.data_start (length now - r.data_start) now))
              → Transcoded f out a (put_mid r.data_start (length now - r.data_start) now part)
          unfolding transcoding out_transcoded transcoded
          lines_put {part} p =
              let lines = new_lines r r.nol in
              let start = r.data_start in
              call.accepted (transcode_rejection f (length out)) (transcoded f) out a answered done
              (call.size_is (transcode_rejection f (length out)) (transcoded f) out a answers done)
              (put_mid start (length now - start) now part)
              (put_next (carried_header f) lines out now part start length_carried header_put p
              ∙ ap (λ (m : ℕ). (carried_header f ++ lines) ++ drop m out) (sym size_is))

          carried : Carried r f out a now
          carried =
              record {
                start_within = omega (arith, room, same_length);
                rest_fits =
                    record {
                      good = none_hold.0;
                      counted = none_hold.1.1.0;
                      room = omega (arith, room, same_length, ap length (tail_is r.data_start now), length-drop r.data_start now);
                    };
                by_lines = lines_put;
              }

-- The same of a layout that is the sheet's.
pub width : (f : List ℕ) {n : ℕ} → n ≡ first (rules_to22 f ++ unmoved_rules (sheet_of f).data_type) → n ≡ 0 → (l : RasterLayout) → raster_of l ≡ sheet_of f
    → l.ppl ≤ 65535
width f number none l laid = rw (ap (λ (r : Raster). r.ppl) laid) (ppl_most f [] number none)

module _ {f : List ℕ} {l : RasterLayout} {row : List ℕ} (m : Movable f l row) where
  pub layout_ready : (row' : List ℕ) → length row' ≡ length row → Ready (raster_of l) row'
  layout_ready row' e =
      subst⁻¹ (λ (r : Raster). Ready r row') m.laid
      (ready f [] (sym m.accepted) refl row' (e ∙ m.wide ∙ ap (λ (r : Raster). r.ppl) m.laid))

  start_inside : l.start ≤ length f
  start_inside = subst⁻¹ (λ (r : Raster). r.data_start ≤ length f) m.laid (ready f [] (sym m.accepted) refl row (m.wide ∙ ap (λ (r : Raster). r.ppl) m.laid)).starts

  pub header-length : l.start ≡ length (take l.start f)
  header-length = sym (length-take-le l.start f start_inside)

  module _ (out : List ℕ) {a : WriteNumbers}
      (planned : a ≡ answer_by (first (line_rules (raster_of l) (new_size (raster_of l)) (length out))) (new_size (raster_of l))) where
    planned_so : a ≡ answer_by (first (line_rules (sheet_of f) (new_size (sheet_of f)) (length out))) (new_size (sheet_of f))
    planned_so = subst (λ (r : Raster). a ≡ answer_by (first (line_rules r (new_size r) (length out))) (new_size r)) m.laid planned

    pub not_planned : (a.number ≡ 0 → ⊥) → Transcoded f out a out
    not_planned some = by_plan f out (sym m.accepted) refl planned_so some

    pub header_carried : a.number ≡ 0 → {now : List ℕ} {to : ℕ} → to ≡ other_type l.dtc → now ≡ with_type (over (take l.start f) out) to
        → Carried (raster_of l) f out a now
    header_carried done {now} typed put =
        subst⁻¹ (λ (r : Raster). Carried r f out a now) m.laid
        (carried f out (sym m.accepted) refl planned_so done
        (ap (λ (r : Raster). take r.data_start f) m.laid) (typed ∙ ap (λ (r : Raster). other_type r.data_type) m.laid) put)
