-- The whole call: what a rejected one answers and leaves, and what one that is not has room for, answers and leaves.
use Rattle.std.specs.Prelude.{◌≡◌, ℕ, ◌+◌, ◌-◌, ◌≤◌, Bool, cond, List, ◌++◌, length, drop, ◌≢◌, ◌==◌, nat_lt, refl}
use Rattle.std.proofs.Math.Path.{sym, ap}
use Rattle.std.proofs.Common.{◌∙◌, arith, length-append, length-drop, eq-eqb, ne_eqb, le-ltb, ltb-false}
use borrow.Rule.Slice.PartMut.{mid_of, put_mid}
use Rattle.units.specs.Rules.{first}
use Rattle.units.proofs.Laws.Rules.{first_here, first_later, none_holds, NoneHolds}
use Rattle.encode_header.specs.declared.Job.{Job}
use Rattle.refusals.specs.declared.Rejection.{Rejection}
use Rattle.refusals.specs.Rejections.{number_of}
use Rattle.refusals.proofs.Laws.Numbers.{numbered}
use Rattle.encode_header.specs.Picture.{Picture}
use Rattle.encode_header.specs.Header.{header_bytes, header_size}
use Rattle.encode_raster.specs.File.{lines_of, file_bytes}
use Rattle.encode_raster.specs.Writing.{given_rules, picture_rules, writer_rejection, writing, out_after}
use Rattle.encode_header.specs.Job.{job_picture, picture_of, header_over}
use Rattle.encode_answer.specs.Sizes.{WriteNumbers}
use Rattle.encode_answer.proofs.Laws.Sizes.{answer_number, answer_size}
use Rattle.encode_answer.proofs.Laws.Call as call
use Rattle.encode_header.proofs.Laws.Positions.{length-header}
use Rattle.encode_raster.specs.Laws.Answer.{bare, plan_rules, Within, LinesFit}
use Rattle.units.proofs.Laws.Parts.{tail_is, put_next}
use Rattle.encode_raster.proofs.Laws.Plan.{Planned}
use Rattle.encode_raster.proofs.Laws.Accepting.{Limits, limits, lines_bare, file-size, rules_bare}

-- The answer and the output of a call.
abbrev Written : Picture → List ℕ → WriteNumbers → List ℕ → Type 0
Written i out r now = (r ≡ writing i (length out)) × (now ≡ out_after i out)

refused : (i : Picture) (out : List ℕ) (r : WriteNumbers) → r.number ≡ writer_rejection i (length out) → (r.number ≢ 0) → r.size ≡ 0
    → Written i out r out
unfolding writing out_after
refused i out = call.refused (writer_rejection i (length out)) (file_bytes i) out

accepted : (i : Picture) (out : List ℕ) (r : WriteNumbers) → r.number ≡ writer_rejection i (length out) → r.number ≡ 0
    → r.size ≡ length (file_bytes i) → (now : List ℕ) → now ≡ file_bytes i ++ drop (length (file_bytes i)) out → Written i out r now
unfolding writing out_after
accepted i out = call.accepted (writer_rejection i (length out)) (file_bytes i) out

-- What is known behind the header of a file that is written: the scanlines fit what is lent for them, and end the call.
pub record Ready (j : Job) (table pixels out : List ℕ) (r : WriteNumbers) (start : ℕ) (now : List ℕ) : Type 0 where
  pub job_within : Within j pixels
  pub start_within : start ≤ length now
  pub rest_fits : LinesFit (bare j pixels) j.nol (mid_of start (length now - start) now)
  pub by_lines : {part : List ℕ}
      → part ≡ lines_of (bare j pixels) j.nol ++ drop (length (lines_of (bare j pixels) j.nol)) (mid_of start (length now - start) now)
      → Written (job_picture j table pixels) out r (put_mid start (length now - start) now part)

-- a header put over an output that it fits, and scanlines behind it
over_header : (head out now : List ℕ) → length head ≤ length out → now ≡ cond (nat_lt (length out) (length head)) out (head ++ drop (length head) out)
    → now ≡ head ++ drop (length head) out
over_header head out now h e = e ∙ ap (λ (b : Bool). cond b out (head ++ drop (length head) out)) (le-ltb (length out) (length head) h)

header-length : (head out now : List ℕ) → length head ≤ length out → now ≡ head ++ drop (length head) out → length now ≡ length out
header-length head out now h e = omega (arith, ap length e, length-append head (drop (length head) out), length-drop (length head) out)

put_file : (head lines out now part : List ℕ) (start : ℕ) → start ≡ length head → now ≡ head ++ drop (length head) out
    → part ≡ lines ++ drop (length lines) (mid_of start (length now - start) now)
    → put_mid start (length now - start) now part ≡ (head ++ lines) ++ drop (length (head ++ lines)) out
put_file head lines out now part start s e p =
    put_next head lines out now part start (sym s) (e ∙ ap (λ (n : ℕ). head ++ drop n out) (sym s)) p
    ∙ ap (λ (n : ℕ). (head ++ lines) ++ drop n out) (ap (λ (n : ℕ). n + length lines) s ∙ sym (length-append head lines))

module _ (j : Job) (table pixels out : List ℕ) where
  -- rejected by a field: by the rules' number, and by a rejection that has it
  pub by_field_number : {n : ℕ} → n ≡ first (given_rules (job_picture j table pixels)) → (n ≢ 0) → {r : WriteNumbers} → r ≡ record { number = n; size = 0 }
      → Written (job_picture j table pixels) out r out
  unfolding writer_rejection
  by_field_number number some {r} e =
      let m = ap (λ (x : WriteNumbers). x.number) e in
      refused (job_picture j table pixels) out r
      (m ∙ number ∙ sym (first_here (given_rules (job_picture j table pixels)) (picture_rules (job_picture j table pixels) (length out)) (λ z. some (number ∙ z))))
      (λ z. some (sym m ∙ z))
      (ap (λ (x : WriteNumbers). x.size) e)

  pub by_field : (y : Rejection) → number_of y ≡ first (given_rules (job_picture j table pixels))
      → Written (job_picture j table pixels) out (record { number = number_of y; size = 0 }) out
  unfolding writer_rejection
  by_field y e =
      refused (job_picture j table pixels) out (record { number = number_of y; size = 0 })
      (e ∙ sym (first_here (given_rules (job_picture j table pixels)) (picture_rules (job_picture j table pixels) (length out)) (λ z. numbered y (e ∙ z))))
      (numbered y) refl

  module _ (none : 0 ≡ first (given_rules (job_picture j table pixels))) where
    pub within : Limits j.dtc j.ppl j.nol j.slo j.scn (length table) (length pixels)
    within = limits j.dtc j.ppl j.nol j.slo j.scn (length table) (length pixels) (sym none)

    pub job_within : Within j pixels
    job_within = record { ppl_most = within.fields.ppl_most; nol_most = within.fields.nol_most; rows_there = within.rows_there }

    module _ {head : ℕ} (sized : head ≡ (header_size table).0) {r : WriteNumbers} (planned : Planned j pixels head (length out) r) where
      rule_is : r.number ≡ first (plan_rules j pixels head (length out))
      rule_is = ap (λ (w : WriteNumbers). w.number) planned ∙ answer_number (first (plan_rules j pixels head (length out))) (head + length (lines_of (bare j pixels) j.nol))

      size_is : r.size ≡ cond (r.number == 0) (head + length (lines_of (bare j pixels) j.nol)) 0
      size_is =
          ap (λ (w : WriteNumbers). w.size) planned
          ∙ answer_size (first (plan_rules j pixels head (length out))) (head + length (lines_of (bare j pixels) j.nol))
          ∙ ap (λ (m : ℕ). cond (m == 0) (head + length (lines_of (bare j pixels) j.nol)) 0) (sym rule_is)

      plan_number : r.number ≡ writer_rejection (job_picture j table pixels) (length out)
      unfolding writer_rejection
      plan_number =
          rule_is
          ∙ ap (λ (h : ℕ). first (plan_rules j pixels h (length out))) sized
          ∙ ap first (sym (rules_bare j table pixels (length out)))
          ∙ sym (first_later (given_rules (job_picture j table pixels)) (picture_rules (job_picture j table pixels) (length out)) tt (sym none))

      pub by_plan : (r.number ≢ 0) → Written (job_picture j table pixels) out r out
      by_plan some =
          refused (job_picture j table pixels) out r plan_number some
          (size_is ∙ ap (λ (b : Bool). cond b (head + length (lines_of (bare j pixels) j.nol)) 0) (ne_eqb r.number 0 some))

      module _ (done : r.number ≡ 0) where
        rows : NoneHolds (plan_rules j pixels head (length out))
        rows = none_holds (plan_rules j pixels head (length out)) tt (sym rule_is ∙ done)

        room : head + length (lines_of (bare j pixels) j.nol) ≤ length out
        room = ltb-false (length out) (head + length (lines_of (bare j pixels) j.nol)) rows.1.1.1.0

        module _ {start : ℕ} {now : List ℕ} (placed : start ≡ length (header_bytes (picture_of j table)))
            (written : now ≡ header_over (picture_of j table) out) where
          start_is : start ≡ head
          start_is = placed ∙ length-header (picture_of j table) ∙ sym sized

          header_fits : length (header_bytes (picture_of j table)) ≤ length out
          header_fits = omega (arith, room, start_is, placed)

          header_put : now ≡ header_bytes (picture_of j table) ++ drop (length (header_bytes (picture_of j table))) out
          header_put = over_header (header_bytes (picture_of j table)) out now header_fits written

          same_length : length now ≡ length out
          same_length = header-length (header_bytes (picture_of j table)) out now header_fits header_put

          lines_put : {part : List ℕ}
              → part ≡ lines_of (bare j pixels) j.nol ++ drop (length (lines_of (bare j pixels) j.nol)) (mid_of start (length now - start) now)
              → Written (job_picture j table pixels) out r (put_mid start (length now - start) now part)
          unfolding file_bytes
          lines_put {part} p =
              accepted (job_picture j table pixels) out r plan_number done
              (size_is
              ∙ ap (λ (b : Bool). cond b (head + length (lines_of (bare j pixels) j.nol)) 0) (eq-eqb r.number 0 done)
              ∙ ap (λ (h : ℕ). h + length (lines_of (bare j pixels) j.nol)) sized
              ∙ sym (file-size j table pixels))
              (put_mid start (length now - start) now part)
              (put_file (header_bytes (picture_of j table)) (lines_of (bare j pixels) j.nol) out now part start placed header_put p
              ∙ ap (λ (l : List ℕ). (header_bytes (picture_of j table) ++ l) ++ drop (length (header_bytes (picture_of j table) ++ l)) out)
              (sym (lines_bare j table pixels j.nol)))

          pub ready : Ready j table pixels out r start now
          ready =
              record {
                job_within = job_within;
                start_within = omega (arith, room, start_is, same_length);
                rest_fits =
                    record {
                      room = omega (arith, room, start_is, same_length, ap length (tail_is start now), length-drop start now);
                      counted = rows.1.0;
                    };
                by_lines = lines_put;
              }
