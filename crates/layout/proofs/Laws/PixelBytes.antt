-- A reading into bytes is rejected as one into pixels of 16 bits is, as many of them as there is room for.
use Rattle.std.specs.Prelude.{ℕ, ◌*◌, ◌/◌, ◌≤◌, ◌<◌, ◌≡◌, refl, Bool, true, false, List, [], ◌∷◌, ◌++◌, ltb}
use Rattle.std.proofs.Common.{sym, ◌∙◌, ap, arith, lt-ltb, le-ltb, ltb-true, ltb-false}
use Rattle.units.specs.Counts.{word_bytes}
use Rattle.units.specs.Rules.{rule, first}
use Rattle.header.specs.Rejections.{rules_to22}
use Rattle.layout.specs.Chain.{sheet_of}
use Rattle.layout.specs.Reading.{raster_rejection}
use Rattle.layout.specs.PixelBytes.{bytes_rejection}

pub half_below : (n x : ℕ) → ltb n (word_bytes x) ≡ ltb (n / 2) x
half_below n x = go (ltb n (word_bytes x)) refl
  where
    go : (b : Bool) → ltb n (word_bytes x) ≡ b → ltb n (word_bytes x) ≡ ltb (n / 2) x
    go true t = let h : n < word_bytes x = ltb-true n (word_bytes x) t in t ∙ sym (lt-ltb (n / 2) x (omega arith))
    go false t = let h : word_bytes x ≤ n = ltb-false n (word_bytes x) t in t ∙ sym (le-ltb (n / 2) x (omega arith))

pub bytes_rejection_lem : (f : List ℕ) (pixels marks : ℕ) → bytes_rejection f pixels marks ≡ raster_rejection f (pixels / 2) marks
unfolding bytes_rejection raster_rejection
bytes_rejection_lem f pixels marks =
    ap (λ (t : Bool). first (rules_to22 f ++ (rule 23 t ∷ (rule 24 (ltb marks (sheet_of f).nol) ∷ []))))
    (half_below pixels ((sheet_of f).nol * (sheet_of f).ppl))
