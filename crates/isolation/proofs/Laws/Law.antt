-- Demand 3: damage inside the bodies of scanlines stays there.
use Rattle.std.specs.Prelude.{ℕ, ◌*◌, ◌≤◌, ◌<◌, ◌≡◌, refl, List, length}
use Rattle.std.proofs.Common.{sym, ◌∙◌, ap, arith, le-ltb, ne_eqb}
use Rattle.units.proofs.Laws.Rules.{both_none}
use Rattle.header.specs.Rejections.{rejection_to22, rules_to22}
use Rattle.layout.specs.Scanline.{Reading}
use Rattle.layout.specs.Chain.{Raster, sheet_of, start, reached, body_at, rollover_of, end_of}
use Rattle.layout.specs.Reading.{raster_rejection, buffer_rules, raster_reading, pixels_after, marks_after}
use Rattle.isolation.specs.Statement.{ChangedInBodies, LineIs, SameLine, TwoReadings, buffer_rejection, RejectedReading, Demand3}
use Rattle.isolation.proofs.Laws.OneFile.{with_bytes, line_is, one-reading, pixels_room, marks_room}
use Rattle.isolation.proofs.Laws.TwoFiles.{same_sheet, rejection_is, same_starts, same_reaches, same_rollovers, same_readings, also_none}

pub accepted_file : (f : List ℕ) (room lines : ℕ) → raster_rejection f room lines ≡ 0 → rejection_to22 f ≡ 0
unfolding raster_rejection rejection_to22
accepted_file f room lines h = (both_none (rules_to22 f) (buffer_rules (sheet_of f).ppl (sheet_of f).nol room lines) tt h).0

-- a rejected reading changes nothing
rejected_with : (f pixels marks : List ℕ) {n : ℕ} → raster_rejection f (length pixels) (length marks) ≡ n → (n ≡ 0 → ⊥)
    → RejectedReading n pixels marks (raster_reading f pixels marks) (pixels_after f pixels marks) (marks_after f pixels marks)
unfolding raster_reading pixels_after marks_after
rejected_with f pixels marks {n} h z =
    record { number = rw (h, ne_eqb n 0 z); pixels_stay = rw (h, ne_eqb n 0 z); marks_stay = rw (h, ne_eqb n 0 z) }

same_line-of : {p k : ℕ} {pixels₁ marks₁ pixels₂ marks₂ : List ℕ} {r₁ r₂ : Reading} → r₂ ≡ r₁ → LineIs p k pixels₁ marks₁ r₁
    → LineIs p k pixels₂ marks₂ r₂ → SameLine p k pixels₁ marks₁ pixels₂ marks₂
same_line-of e l₁ l₂ =
    record {
      status = l₂.status ∙ ap (λ (r : Reading). r.status) e ∙ sym l₁.status;
      row = l₂.row ∙ ap (λ (r : Reading). r.row) e ∙ sym l₁.row;
    }

two_readings : (f g pixels₁ marks₁ pixels₂ marks₂ : List ℕ) → (sheet_of f).scn ≡ 1 → rejection_to22 f ≡ 0
    → raster_rejection f (length pixels₁) (length marks₁) ≡ 0 → ChangedInBodies f g
    → raster_rejection g (length pixels₂) (length marks₂) ≡ 0
    → TwoReadings (sheet_of f) (sheet_of g) (raster_reading f pixels₁ marks₁) (pixels_after f pixels₁ marks₁) (marks_after f pixels₁ marks₁)
    (raster_reading g pixels₂ marks₂) (pixels_after g pixels₂ marks₂) (marks_after g pixels₂ marks₂)
two_readings f g pixels₁ marks₁ pixels₂ marks₂ one ok taken₁ changed taken₂ =
    let r = sheet_of f in
    let sheet = same_sheet f g one ok changed in
    let starts = same_starts r g one changed.same_length changed.elsewhere in
    let reaches = same_reaches r g one changed.same_length changed.elsewhere in
    let first = one-reading r f refl one (λ k. refl) pixels₁ marks₁ taken₁ in
    let second = one-reading r g sheet one reaches pixels₂ marks₂ taken₂ in
    let line : (k : ℕ) → k < r.nol → body_at (with_bytes r g) k ≡ body_at r k → SameLine r.ppl k (pixels_after f pixels₁ marks₁) (marks_after f pixels₁ marks₁) (pixels_after g pixels₂ marks₂) (marks_after g pixels₂ marks₂) =
    λ k l b.
    same_line-of (same_readings r g one changed.same_length changed.elsewhere k b)
    (line_is r f refl one (λ j. refl) pixels₁ marks₁ taken₁ k l)
    (line_is r g sheet one reaches pixels₂ marks₂ taken₂ k l) in
    record {
      first = first;
      second = second;
      same_reached = λ k l. ap (λ (x : Raster). reached x k) sheet ∙ reaches k;
      same_start = λ k l. ap (λ (x : Raster). start x k) sheet ∙ starts k;
      same_end = second.end ∙ ap end_of sheet ∙ starts r.nol ∙ sym first.end;
      same_rollover =
          λ l q. ap rollover_of sheet ∙ same_rollovers r g one changed.same_length changed.elsewhere q;
      same_line = λ k l b. line k l (sym (ap (λ (x : Raster). body_at x k) sheet) ∙ b);
      no_body = λ k l b. line k l (also_none r g one changed.same_length changed.elsewhere k b ∙ sym b);
    }

-- buffers with room are not rejected
room_enough : (r : Raster) (pixels marks : List ℕ) → r.nol * r.ppl ≤ length pixels → r.nol ≤ length marks → buffer_rejection r pixels marks ≡ 0
room_enough r pixels marks p m = rw (le-ltb (length pixels) (r.nol * r.ppl) p, le-ltb (length marks) r.nol m)

pub isolated : Demand3
isolated f g pixels₁ marks₁ pixels₂ marks₂ one taken₁ changed =
    let ok = accepted_file f (length pixels₁) (length marks₁) taken₁ in
    let n = rejection_is f g one ok changed (length pixels₂) (length marks₂) in
    record {
      rejection = n;
      as_much =
          λ p m.
          let q = pixels_room f pixels₁ marks₁ taken₁ in
          let s = marks_room f pixels₁ marks₁ taken₁ in
          room_enough (sheet_of f) pixels₂ marks₂ (omega arith) (omega arith);
      rejected = λ h. rejected_with g pixels₂ marks₂ n h;
      otherwise = λ h. two_readings f g pixels₁ marks₁ pixels₂ marks₂ one ok taken₁ changed (n ∙ h);
    }
