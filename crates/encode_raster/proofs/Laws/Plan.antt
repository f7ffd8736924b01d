-- The plan of a file: the rejections by its pixels and its sizes, or its length.
use Rattle.std.specs.Prelude.{◌≡◌, ℕ, ◌+◌, ◌-◌, ◌*◌, Bool, true, false, cond, List, length, take, drop, ◌==◌}
use Rattle.std.proofs.Common.{sym, ◌∙◌, ap, arith}
use Rattle.units.specs.Rules.{first}
use Rattle.codec.specs.Table.{codec_of}
use Rattle.encode_header.specs.declared.Job.{Job}
use Rattle.encode_raster.specs.declared.Measure.{Measure}
use Rattle.encode_raster.specs.File.{lines_of}
use Rattle.encode_raster.specs.Writing.{any_above}
use Rattle.encode_answer.specs.Sizes.{size_rules, WriteNumbers, answer_by}
use Rattle.encode_answer.proofs.Laws.Sizes.{answer_number, answer_size}
use Rattle.encode_raster.specs.Laws.Answer.{bare, plan_rules, Measured}

-- the first n pixels, as a part
pub front_is : (n : ℕ) (l : List ℕ) → take (n - 0) (drop 0 l) ≡ take n l
front_is n l = let e : n - 0 ≡ n = omega arith in ap (λ (m : ℕ). take m l) e

abbrev pub Planned : Job → List ℕ → ℕ → ℕ → WriteNumbers → Type 0
Planned j pixels head room w = w ≡ answer_by (first (plan_rules j pixels head room)) (head + length (lines_of (bare j pixels) j.nol))

-- the length by the number alone
abbrev pub plan_size : ℕ → Job → List ℕ → ℕ → ℕ
plan_size number j pixels head = cond (number == 0) (head + length (lines_of (bare j pixels) j.nol)) 0

module _ (j : Job) (pixels : List ℕ) (head room : ℕ) where
  pub plan_parts : {r : WriteNumbers} → Planned j pixels head room r
      → (r.number ≡ first (plan_rules j pixels head room)) × (r.size ≡ plan_size r.number j pixels head)
  plan_parts {r} planned =
      let n = first (plan_rules j pixels head room) in
      let size = head + length (lines_of (bare j pixels) j.nol) in
      let number : r.number ≡ n = ap (λ (w : WriteNumbers). w.number) planned ∙ answer_number n size in (
        number,
        ap (λ (w : WriteNumbers). w.size) planned ∙ answer_size n size ∙ ap (λ (m : ℕ). cond (m == 0) size 0) (sym number),
      )

  module _ {m : ℕ} {above : Bool} (high : m ≡ (codec_of j.dtc).highest) (tested : above ≡ any_above m (take (j.nol * j.ppl - 0) (drop 0 pixels))) where
    pixels_tested : any_above (codec_of j.dtc).highest (take (j.nol * j.ppl) pixels) ≡ above
    pixels_tested = sym (tested ∙ (λ k. any_above (high k) (front_is (j.nol * j.ppl) pixels k)))

    pub plan_26 : {r : WriteNumbers} → r ≡ record { number = 26; size = 0 } → above ≡ true → Planned j pixels head room r
    plan_26 e t = e ∙ (rw (pixels_tested ∙ t))

    -- no pixel is too high: by the sizes, where the scanlines measure d
    pub plan_sizes : above ≡ false → {d : Measure} → Measured (bare j pixels) j.nol d → {r : WriteNumbers}
        → r ≡ answer_by (first (size_rules j.scn d.long (head + d.size.0) room)) (head + d.size.0)
        → Planned j pixels head room r
    plan_sizes under {d} measured e =
        e
        ∙ (rw (pixels_tested ∙ under) (λ k. answer_by (first (size_rules j.scn (measured.long k) (head + measured.size k) room)) (head + measured.size k)))
