-- What holds of a file that is transcoded: no rule of the table does.
use Rattle.std.specs.Prelude.{ℕ, ◌≤◌, ◌≡◌, refl, Bool, true, false, not, ◌&&◌, ◌||◌, List, ◌++◌, length, eqb}
use Rattle.std.proofs.Common.{sym, ◌∙◌, ap, inl, inr, ltb-false, eqb-true, eq-eqb}
use Rattle.std.proofs.lemmas.Bool.{false≢true, not-false}
use Rattle.units.specs.Counts.{bytes_of_blocks}
use Rattle.units.proofs.Laws.Rules.{none_holds, both_none}
use Rattle.fields.specs.declared.Fields.{Fields}
use Rattle.fields.specs.Fields.{header_blocks}
use Rattle.header.specs.Rejections.{rules_to22, rejection_to22}
use Rattle.header.proofs.Laws.Accepted.{accepted}
use Rattle.layout.specs.Scanline.{pixel_offset}
use Rattle.layout.specs.Chain.{sheet_of, head_at, reading_at}
use Rattle.transcode_parts.specs.Rules.{unmoved_rules}
use Rattle.transcode.specs.File.{carried_header, transcoded}
use Rattle.transcode.specs.Transcoding.{is_refused, is_partway, line_rules, transcode_rejection}
use Rattle.transcode.proofs.Laws.Lines.{line-none}
use Rattle.there_and_back.proofs.Laws.Levels.{TwoLevels}
use Rattle.there_and_back.proofs.Laws.Header.{length_carried, is_split, fields_are, not_rejected}
use Rattle.there_and_back.proofs.Laws.Chain.{Movable, Moved}

either_type : (t : ℕ) (a b : Bool) → eqb t 1 ≡ a → eqb t 9 ≡ b → not (a || b) ≡ false → TwoLevels t
either_type t true b e d h = inl (eqb-true t 1 e)
either_type t false true e d h = inr (eqb-true t 9 d)
either_type t false false e d h = absurd (false≢true (sym h))

second : (a b : ℕ) (t : Bool) → (eqb a b && t) ≡ false → a ≡ b → t ≡ false
second a b t h e = rw (eq-eqb a b e) at h

pub record Given (f : List ℕ) : Type 0 where
  pub file : rejection_to22 f ≡ 0
  pub movable : Movable (sheet_of f)
  pub short : length (transcoded f) ≤ 2147483647

pub given : (f : List ℕ) (room : ℕ) → transcode_rejection f room ≡ 0 → Given f
unfolding transcode_rejection rejection_to22
given f room e =
    let r = sheet_of f in
    let behind = line_rules r (length (transcoded f)) room in
    let parts = both_none (rules_to22 f) (unmoved_rules r.data_type ++ behind) tt e in
    let rules = none_holds (unmoved_rules r.data_type ++ behind) tt parts.1 in
    let w = (accepted f parts.0).limits in
    record {
      file = parts.0;
      movable =
          record {
            two = either_type r.data_type (eqb r.data_type 1) (eqb r.data_type 9) refl refl rules.0;
            scn_most = w.scn_most;
            ppl_least = w.ppl_least;
            good =
                λ k h.
                eqb-true (reading_at r k).status 0 (not-false (eqb (reading_at r k).status 0) (line-none (is_refused r) r.nol k h rules.1.0));
            column =
                λ k h one.
                let off = pixel_offset (head_at r k) in
                eqb-true off 0 (not-false (eqb off 0) (second r.scn 1 (not (eqb off 0)) (line-none (is_partway r) r.nol k h rules.1.1.0) one));
          };
      short = ltb-false 2147483647 (length (transcoded f)) rules.1.1.1.1.0;
    }

-- the raster of the new file
module _ (f : List ℕ) (g : Given f) where
  pub accepted_too : rejection_to22 (transcoded f) ≡ 0
  accepted_too = not_rejected f g.file g.movable.two g.short

  pub moved : Moved (sheet_of f) (sheet_of (transcoded f))
  moved =
      let e = fields_are f g.file g.movable.two in
      record {
        head = carried_header f;
        file = is_split f g.file g.movable.two;
        starts =
            ap (λ (h : Fields). (bytes_of_blocks (header_blocks h)).0) e
            ∙ sym (length_carried f g.file g.movable.two);
        scn = ap (λ (h : Fields). h.scn) e;
        type = ap (λ (h : Fields). h.dtc) e;
        ppl = ap (λ (h : Fields). h.ppl) e;
      }

  pub same_start : (sheet_of (transcoded f)).data_start ≡ (sheet_of f).data_start
  same_start = ap (λ (h : Fields). (bytes_of_blocks (header_blocks h)).0) (fields_are f g.file g.movable.two)

  pub same_lines : (sheet_of (transcoded f)).nol ≡ (sheet_of f).nol
  same_lines = ap (λ (h : Fields). h.nol) (fields_are f g.file g.movable.two)
