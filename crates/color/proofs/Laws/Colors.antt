-- The two colors of a file: both its rejection, both its table's color, or ink on paper. And an IGDS color by its three bytes.
use Rattle.std.specs.Prelude.{ℕ, ◌+◌, ◌*◌, ◌≤◌, ◌≡◌, refl, Bool, true, false, cond, List, ltb}
use Rattle.std.proofs.Common.{eq-eqb, ne_eqb, ltb-false}
use Rattle.units.specs.LittleEndian.{byte_at}
use Rattle.fields.specs.Fields.{fields_of}
use Rattle.header.specs.Rejections.{rejection_to22}
use Rattle.color.specs.Color.{ColorNumbers, color, no_color, scaled, igds_color, table_color, is_inked, ink_color, color_reading, plotter_reading}

module _ (f : List ℕ) (v : ℕ) where
  -- the two colors are one
  abbrev pub Both : ColorNumbers → Type 0
  Both c = (color_reading f v ≡ c) × (plotter_reading f v ≡ c)

  pub both_rejected : (rejection_to22 f ≡ 0 → ⊥) → Both (no_color (rejection_to22 f))
  both_rejected some = let e = ne_eqb (rejection_to22 f) 0 some in (rw e, rw e)

  module _ (ok : rejection_to22 f ≡ 0) where
    pub by_plotter : plotter_reading f v ≡ table_color f v
    by_plotter = rw (eq-eqb (rejection_to22 f) 0 ok)

    pub by_ink : is_inked (fields_of f).dtc (fields_of f).ctv ≡ true → color_reading f v ≡ ink_color v
    by_ink e = rw (eq-eqb (rejection_to22 f) 0 ok, e)

    pub by_table : is_inked (fields_of f).dtc (fields_of f).ctv ≡ false → Both (table_color f v)
    by_table e = (rw (eq-eqb (rejection_to22 f) 0 ok, e), by_plotter)

-- the bytes count for a value of at most 255 alone
pub igds_is : (f : List ℕ) (v red green blue : ℕ)
    → (v ≤ 255 → (byte_at f (768 + 3 * v) ≡ red) × ((byte_at f (768 + 3 * v + 1) ≡ green) × (byte_at f (768 + 3 * v + 2) ≡ blue)))
    → igds_color f v ≡ cond (ltb 255 v) (no_color 25) (color (scaled red) (scaled green) (scaled blue))
igds_is f v red green blue bytes = go (ltb 255 v) refl
  where
    go : (t : Bool) → ltb 255 v ≡ t
        → cond t (no_color 25) (color (scaled (byte_at f (768 + 3 * v))) (scaled (byte_at f (768 + 3 * v + 1))) (scaled (byte_at f (768 + 3 * v + 2))))
        ≡ cond t (no_color 25) (color (scaled red) (scaled green) (scaled blue))
    go true e = refl
    go false e =
        let b = bytes (ltb-false 255 v e) in
        λ j. color (scaled (b.0 j)) (scaled (b.1.0 j)) (scaled (b.1.1 j))
