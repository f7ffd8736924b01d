-- A file that is not rejected and one that is not either, with the same CTV, CTE and bytes where a color table can lie, from 768 on and
-- below the raster data: both have the same colors by the table, and the same colors if both or neither are ink on paper.
use Rattle.std.specs.Prelude.{ℕ, ◌+◌, ◌-◌, ◌*◌, ◌≤◌, ◌<◌, ◌≡◌, refl, Bool, true, false, cond, List, get_or, eqb}
use Rattle.std.proofs.Common.{◌∙◌, arith, eqb-true}
use Rattle.std.proofs.lemmas.Bool.{eqb-false}
use Rattle.units.specs.LittleEndian.{byte_at, u16_at}
use Rattle.fields.specs.Fields.{fields_of}
use Rattle.header.specs.Rejections.{entry_start, slot_at, rejection_to22}
use Rattle.header.proofs.Laws.Accepted.{Accepted, accepted}
use Rattle.color.specs.Color.{no_color, gray_color, igds_color, entry_color, environ_color, table_color, is_inked, ink_color, color_reading, plotter_reading}
use Rattle.color.proofs.Laws.Colors.{igds_is}
use Rattle.layout.specs.Chain.{sheet_of}
use Rattle.isolation.proofs.Laws.Same.{same_scan}
use Rattle.isolation.proofs.Laws.Headers.{same_slot}

module _ (f g : List ℕ) (ok : rejection_to22 f ≡ 0) (ok₂ : rejection_to22 g ≡ 0)
    (same : (i : ℕ) → 768 ≤ i → i < (sheet_of f).data_start → get_or g i 0 ≡ get_or f i 0)
    (ctv : (fields_of g).ctv ≡ (fields_of f).ctv) (cte : (fields_of g).cte ≡ (fields_of f).cte) (v : ℕ) where
  a : Accepted f
  a = accepted f ok

  same_igds : (fields_of f).ctv ≡ 1 → igds_color g v ≡ igds_color f v
  same_igds one =
      igds_is g v (byte_at f (768 + 3 * v)) (byte_at f (768 + 3 * v + 1)) (byte_at f (768 + 3 * v + 2))
      (λ l.
      let b = a.igds one in
      (same (768 + 3 * v) (omega arith) (omega arith), (same (768 + 3 * v + 1) (omega arith) (omega arith), same (768 + 3 * v + 2) (omega arith) (omega arith))))

  word : (at : ℕ) → 768 ≤ at → at + 2 ≤ (sheet_of f).data_start → u16_at g at ≡ u16_at f at
  unfolding u16_at
  word at low h = rw (same at low (omega arith), same (at + 1) (omega arith) (omega arith))

  same_environ : (fields_of f).ctv ≡ 2 → environ_color g (fields_of f).cte v ≡ environ_color f (fields_of f).cte v
  same_environ two =
      let n = (fields_of f).cte in
      let e = a.entries two in
      same_scan (λ i. eqb (slot_at g i) v) (λ i. eqb (slot_at f i) v) (entry_color g) (entry_color f) (no_color 25) 0 (n - 0)
      (λ i l u. (
        rw (same_slot g f (sheet_of f).data_start same i n e (omega arith)),
        rw (word (entry_start i + 2) (omega arith) (omega arith), word (entry_start i + 4) (omega arith) (omega arith), word (entry_start i + 6) (omega arith) (omega arith)),
      ))

  same_table : table_color g v ≡ table_color f v
  same_table =
      (λ j. cond (eqb (ctv j) 0) (gray_color v) (cond (eqb (ctv j) 1) (igds_color g v) (environ_color g (cte j) v)))
      ∙ go (eqb (fields_of f).ctv 0) (eqb (fields_of f).ctv 1) refl refl
    where
      go : (none igds : Bool) → eqb (fields_of f).ctv 0 ≡ none → eqb (fields_of f).ctv 1 ≡ igds
          → cond none (gray_color v) (cond igds (igds_color g v) (environ_color g (fields_of f).cte v))
          ≡ cond none (gray_color v) (cond igds (igds_color f v) (environ_color f (fields_of f).cte v))
      go true igds e₀ e₁ = refl
      go false true e₀ e₁ = same_igds (eqb-true (fields_of f).ctv 1 e₁)
      go false false e₀ e₁ =
          let n₀ = eqb-false (fields_of f).ctv 0 e₀ in
          let n₁ = eqb-false (fields_of f).ctv 1 e₁ in
          let two : (fields_of f).ctv ≡ 2 = omega (arith, a.ctv) in
          same_environ two

  pub same_plotter : plotter_reading g v ≡ plotter_reading f v
  same_plotter = rw (ok₂, ok) same_table

  pub same_color : is_inked (fields_of g).dtc (fields_of g).ctv ≡ is_inked (fields_of f).dtc (fields_of f).ctv → color_reading g v ≡ color_reading f v
  same_color inked = rw (ok₂, ok) (λ j. cond (inked j) (ink_color v) (same_table j))
