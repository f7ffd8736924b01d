-- Type 2: with the spare byte, and without it.
use Rattle.std.specs.Prelude.{ℕ, ◌+◌, ◌%◌, ◌≡◌, refl, Bool, true, false, ◌&&◌, List, [], ◌∷◌, ◌++◌, length, set, eqb}
use Rattle.std.proofs.Common.{sym, ◌∙◌, ap, eq-eqb, ne_eqb, length-append}
use Rattle.units.specs.LittleEndian.{low_bytes}
use Rattle.units.specs.Over.{over}
use Rattle.units.proofs.Laws.LittleEndian.{length-low}
use Rattle.units.proofs.Laws.Over.{over_append}
use Rattle.codec.specs.BytePixels.{byte_body}

and_false : (b : Bool) → (b && false) ≡ false
and_false true = refl
and_false false = refl

module _ (scn : ℕ) (row : List ℕ) where
  pub body_spare : scn ≡ 1 → eqb (length row % 2) 1 ≡ true → byte_body scn row ≡ low_bytes row ++ (0 ∷ [])
  unfolding byte_body
  body_spare e t = rw (eq-eqb scn 1 e, t)

  pub body_even : eqb (length row % 2) 1 ≡ false → byte_body scn row ≡ low_bytes row
  unfolding byte_body
  body_even f = rw (f, and_false (eqb scn 1))

  pub body-bare : (scn ≡ 1 → ⊥) → byte_body scn row ≡ low_bytes row
  unfolding byte_body
  body-bare n = rw (ne_eqb scn 1 n)

pub length_spare : (row : List ℕ) → length (low_bytes row ++ (0 ∷ [])) ≡ length row + 1
length_spare row = length-append (low_bytes row) (0 ∷ []) ∙ ap (λ (n : ℕ). n + 1) (length-low row)

pub over_spare : (row old : List ℕ) → set (over (low_bytes row) old) (length row) 0 ≡ over (low_bytes row ++ (0 ∷ [])) old
over_spare row old = sym (over_append (low_bytes row) (0 ∷ []) old ∙ rw (length-low row))
