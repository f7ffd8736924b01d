-- Which changes demand 3 covers, from both sides: every byte of every body may become any other, and no other byte may.
use Rattle.std.specs.Prelude.{ℕ, zero, suc, ◌+◌, ◌<◌, ◌≡◌, ◌↔◌, List, length, set}
use Rattle.std.proofs.lemmas.List.Edits.{sets}
use Rattle.units.specs.Over.{zeros}
use Rattle.header.specs.Rejections.{rejection_to22}
use Rattle.layout.specs.Chain.{Raster, sheet_of, start, body_at}
use Rattle.isolation.specs.Statement.{ChangedInBodies}

-- the bytes h with byte j of the body of scanline k, as the chain of r has it, replaced by b
abbrev pub with_body_byte : Raster → ℕ → ℕ → ℕ → List ℕ → List ℕ
with_body_byte r k j b h = set h (start r k + 8 + j) b

-- the bytes h with the bodies of the first n scanlines of r blanked
unfoldable pub blanked : Raster → ℕ → List ℕ → List ℕ
blanked r zero h = h
blanked r (suc k) h = sets (blanked r k h) (start r k + 8) (zeros (length (body_at r k)))

pub record Covered (f : List ℕ) : Type 0 where
  -- no change, and any byte of any body replaced by any other, after any changes that are covered
  pub none : ChangedInBodies f f
  pub more : (g : List ℕ) (k j b : ℕ) → k < (sheet_of f).nol → j < length (body_at (sheet_of f) k) → ChangedInBodies f g
      → ChangedInBodies f (with_body_byte (sheet_of f) k j b g)
  -- nothing else: with the bodies blanked the two files are the same
  pub exactly : (g : List ℕ)
      → ChangedInBodies f g ↔ ((length g ≡ length f) × (blanked (sheet_of f) (sheet_of f).nol g ≡ blanked (sheet_of f) (sheet_of f).nol f))

-- `covered` proves it.
abbrev pub AllCovered : Type 0
AllCovered = (f : List ℕ) → Covered f

-- What is changed inside bodies and then again, inside the bodies that it has then, is so changed in all. `changed_again` proves it.
abbrev pub ChangedAgain : Type 0
ChangedAgain =
    (f g h : List ℕ)
    → (sheet_of f).scn ≡ 1
    → rejection_to22 f ≡ 0
    → ChangedInBodies f g
    → ChangedInBodies g h
    → ChangedInBodies f h
