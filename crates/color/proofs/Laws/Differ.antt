-- The two colors are one but for ink on paper.
use Rattle.std.specs.Prelude.{ℕ, ◌<◌, ◌⊎◌, ◌≡◌, refl, Bool, true, false, cond, ◌||◌, List, eqb, ltb}
use Rattle.std.proofs.Common.{inl, inr, sym, ◌∙◌, ap, arith, ne_eqb, lt-ltb, eqb-true, ltb-true, ltb-false}
use Rattle.std.proofs.lemmas.Bool.{eqb-false, cond_above}
use Rattle.units.proofs.Laws.Rules.{both_true}
use Rattle.fields.specs.Fields.{fields_of}
use Rattle.header.specs.Rejections.{rejection_to22}
use Rattle.color.specs.Color.{ColorNumbers, even_color, no_color, scaled, table_color, is_inked, ink_color, color_reading, plotter_reading}
use Rattle.color.specs.Statement.{OnPaper, ColorsDiffer}
use Rattle.color.proofs.Laws.Colors.{both_rejected, by_plotter, by_ink, by_table}

-- the test and its sentence
is_inked_lem : {t c : ℕ} → (t ≡ 1) ⊎ (t ≡ 9) → c ≡ 0 → is_inked t c ≡ true
is_inked_lem (inl t) c = rw (t, c)
is_inked_lem (inr t) c = rw (t, c)

inked_is : (t c : ℕ) → is_inked t c ≡ true → ((t ≡ 1) ⊎ (t ≡ 9)) × (c ≡ 0)
inked_is t c h =
    let both = both_true (eqb c 0) (eqb t 1 || eqb t 9) h in
    (one_of (eqb t 1) refl both.1, eqb-true c 0 both.0)
  where
    one_of : (b : Bool) → eqb t 1 ≡ b → (b || eqb t 9) ≡ true → (t ≡ 1) ⊎ (t ≡ 9)
    one_of true e h = inl (eqb-true t 1 e)
    one_of false e h = inr (eqb-true t 9 h)

-- ink is no gray
not_gray : (v : ℕ) → ink_color v ≡ even_color (scaled v) → ⊥
not_gray v = go (eqb v 0) (eqb v 1) refl refl
  where
    go : (b d : Bool) → eqb v 0 ≡ b → eqb v 1 ≡ d
        → cond b (even_color 65535) (cond d (even_color 0) (no_color 25)) ≡ even_color (scaled v) → ⊥
    go true d e u h = omega (arith, eqb-true v 0 e, ap (λ (x : ColorNumbers). x.red) h)
    go false true e u h = omega (arith, eqb-true v 1 u, ap (λ (x : ColorNumbers). x.red) h)
    go false false e u h = omega (arith, ap (λ (x : ColorNumbers). x.number) h)

module _ (f : List ℕ) (v : ℕ) where
  module _ (p : OnPaper f v) where
    shown : color_reading f v ≡ ink_color v
    shown = by_ink f v p.accepted (is_inked_lem p.bilevel p.no_table)

    plotted : plotter_reading f v ≡ even_color (scaled v)
    plotted = by_plotter f v p.accepted ∙ rw p.no_table (sym (cond_above _ v _ _ _ (omega (arith, p.one_byte)) refl))

    differ : color_reading f v ≡ plotter_reading f v → ⊥
    differ e = not_gray v (sym shown ∙ e ∙ plotted)

  -- above 255 neither has a color
  neither : (fields_of f).ctv ≡ 0 → 255 < v → ink_color v ≡ table_color f v
  neither none h = rw (ne_eqb v 0 (λ e. omega arith), ne_eqb v 1 (λ e. omega arith), none, lt-ltb 255 v h)

  elsewhere : (OnPaper f v → ⊥) → color_reading f v ≡ plotter_reading f v
  elsewhere not = by_file (eqb (rejection_to22 f) 0) refl
    where
      by_value : rejection_to22 f ≡ 0 → is_inked (fields_of f).dtc (fields_of f).ctv ≡ true → (b : Bool) → ltb 255 v ≡ b → color_reading f v ≡ plotter_reading f v
      by_value ok e true h =
          by_ink f v ok e ∙ neither (inked_is (fields_of f).dtc (fields_of f).ctv e).1 (ltb-true 255 v h) ∙ sym (by_plotter f v ok)
      by_value ok e false h =
          let i = inked_is (fields_of f).dtc (fields_of f).ctv e in
          absurd (not (record { accepted = ok; bilevel = i.0; no_table = i.1; one_byte = ltb-false 255 v h }))

      by_type : rejection_to22 f ≡ 0 → (b : Bool) → is_inked (fields_of f).dtc (fields_of f).ctv ≡ b → color_reading f v ≡ plotter_reading f v
      by_type ok true e = by_value ok e (ltb 255 v) refl
      by_type ok false e = let t = by_table f v ok e in t.0 ∙ sym t.1

      by_file : (b : Bool) → eqb (rejection_to22 f) 0 ≡ b → color_reading f v ≡ plotter_reading f v
      by_file true e = by_type (eqb-true (rejection_to22 f) 0 e) _ refl
      by_file false e = let t = both_rejected f v (eqb-false (rejection_to22 f) 0 e) in t.0 ∙ sym t.1

pub colors_differ : ColorsDiffer
colors_differ f v = record { alike = ((λ e p. differ f v p e), elsewhere f v); shown = shown f v; plotted = plotted f v }
