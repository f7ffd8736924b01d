-- The rows of a picture that is not rejected, and the body of each: it is read back.
use Rattle.std.specs.Prelude.{ℕ, suc, ◌+◌, ◌-◌, ◌*◌, ◌≤◌, ◌<◌, ◌≡◌, refl, Bool, true, false, ◌||◌, List, [], ◌∷◌, ◌++◌, length, take, drop, ltb}
use Rattle.std.proofs.Common.{◌∙◌, ap, arith, length-drop, length-take-le, take-add, ltb-false}
use Rattle.units.proofs.Laws.Parts.{row_within}
use Rattle.codec.specs.Table.{codec_of}
use Rattle.units.proofs.Laws.Below.{AllBelow}
use Rattle.codec.proofs.Laws.RoundTrip.{ReadBack, read_back}
use Rattle.encode_header.specs.Picture.{Picture, picture_pixels, row_at}
use Rattle.encode_raster.specs.Writing.{any_above}
use Rattle.read_back.proofs.Laws.Given.{Given}

-- numbers below n: parts of a list
below_first : (n : ℕ) (xs ys : List ℕ) → AllBelow n (xs ++ ys) → AllBelow n xs
below_first n [] ys b = tt
below_first n (x ∷ xs) ys b = (b.0, below_first n xs ys b.1)

below_second : (n : ℕ) (xs ys : List ℕ) → AllBelow n (xs ++ ys) → AllBelow n ys
below_second n [] ys b = b
below_second n (x ∷ xs) ys b = below_second n xs ys b.1

below_part : (n a p m : ℕ) (xs : List ℕ) → a + p ≤ m → AllBelow n (take m xs) → AllBelow n (take p (drop a xs))
below_part n a p m xs h b =
    let s : m ≡ a + (p + (m - a - p)) = omega arith in
    let q = m - a - p in
    let e : take m xs ≡ take a xs ++ (take p (drop a xs) ++ take q (drop p (drop a xs))) =
    ap (λ (j : ℕ). take j xs) s ∙ take-add a (p + q) xs ∙ ap (λ (r : List ℕ). take a xs ++ r) (take-add p q (drop a xs)) in
    below_first n (take p (drop a xs)) (take q (drop p (drop a xs)))
    (below_second n (take a xs) (take p (drop a xs) ++ take q (drop p (drop a xs))) (rw e at b))

-- no pixel is above m
or_false : (a b : Bool) → (a || b) ≡ false → (a ≡ false) × (b ≡ false)
or_false false b h = (refl, h)
or_false true false h = (h, refl)
or_false true true h = (h, h)

none_above : (m : ℕ) (xs : List ℕ) → any_above m xs ≡ false → AllBelow (suc m) xs
unfolding any_above
none_above m [] h = tt
none_above m (x ∷ xs) h =
    let s = or_false (ltb m x) (any_above m xs) h in
    let l : x ≤ m = ltb-false m x s.0 in
    (omega arith, none_above m xs s.1)

-- row k of a picture
pub record RowFacts (i : Picture) (k : ℕ) : Type 0 where
  pub full : length (row_at i k) ≡ i.ppl
  pub back : ReadBack (codec_of i.dtc) (row_at i k)

pub row_facts : (i : Picture) → Given i → (k : ℕ) → k < i.nol → RowFacts i k
row_facts i g k h =
    let n = row_within k i.nol i.ppl (length i.pixels) h g.enough in
    let m = row_within k i.nol i.ppl (i.nol * i.ppl) h (omega arith) in
    let l : length (row_at i k) ≡ i.ppl = length-take-le i.ppl (drop (k * i.ppl) i.pixels) (omega (arith, length-drop (k * i.ppl) i.pixels)) in
    record {
      full = l;
      back =
          read_back i.dtc (row_at i k) g.limits.known (omega (arith, g.limits.ppl_least))
          (below_part (suc (codec_of i.dtc).highest) (k * i.ppl) i.ppl (i.nol * i.ppl) i.pixels m
          (none_above (codec_of i.dtc).highest (picture_pixels i) g.within_highest));
    }
