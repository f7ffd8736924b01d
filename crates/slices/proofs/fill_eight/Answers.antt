use Rattle.std.proofs.Common.{ℕ, ◌+◌, ◌*◌, ◌/◌, ◌%◌, ◌<◌, ◌≡◌, refl, sym, ◌∙◌, ap, List, [], ◌∷◌, ◌++◌, arith, length, replicate, length-append}
use lib.Seq.{sets}
use Rattle.units.specs.LittleEndian.{u32_bytes}
use Rattle.units.specs.Words.{words_to_bytes}
use Rattle.units.proofs.Laws.Over.{sets-append, sets_over, over_all}
use Rattle.units.proofs.Laws.Stores.{length-bytes}
use Rattle.slices.proofs.fill_eight.Goals as goal

-- two pixels are a number of 32 bits
two : (v x : ℕ) → v < 65536 → x ≡ 65537 * v → u32_bytes x ≡ words_to_bytes (v ∷ (v ∷ []))
unfolding words_to_bytes
two v x h e =
    let whole : x / 65536 ≡ v = omega arith in
    let part : x / 256 ≡ 256 * v + v / 256 = omega arith in
    let a : x % 256 ≡ v % 256 = omega arith in
    let b : (256 * v + v / 256) % 256 ≡ v / 256 = omega arith in
    let c : v / 256 % 256 ≡ v / 256 = omega arith in
    rw (whole, part, a, b, c)

-- four parts of four bytes, one after the other
four-parts : (out w : List ℕ) → length w ≡ 4 → sets (sets (sets (sets out 0 w) 4 w) 8 w) 12 w ≡ sets out 0 (((w ++ w) ++ w) ++ w)
four-parts out w l =
    let k : 0 + length w ≡ 4 = omega arith in
    let m : 0 + length (w ++ w) ≡ 8 = omega (arith, length-append w w) in
    let n : 0 + length ((w ++ w) ++ w) ≡ 12 = omega (arith, length-append (w ++ w) w) in
    sym
    (sets-append out 0 ((w ++ w) ++ w) w
    ∙ ap (λ (i : ℕ). sets (sets out 0 ((w ++ w) ++ w)) i w) n
    ∙ ap (λ (x : List ℕ). sets x 12 w) (sets-append out 0 (w ++ w) w ∙ ap (λ (i : ℕ). sets (sets out 0 (w ++ w)) i w) m)
    ∙ ap (λ (x : List ℕ). sets (sets x 8 w) 12 w) (sets-append out 0 w w ∙ ap (λ (i : ℕ). sets (sets out 0 w) i w) k))

-- eight pixels fill sixteen bytes
eight-fill : (out : List ℕ) (v : ℕ) → length out ≡ 16 → sets out 0 (words_to_bytes (replicate 8 v)) ≡ words_to_bytes (replicate 8 v)
eight-fill out v l =
    let new = words_to_bytes (replicate 8 v) in
    let all : length new ≡ 16 = length-bytes (replicate 8 v) in
    sets_over new out ∙ over_all new out (omega arith)

-- eight pixels, stored two at a time
module _ (out once twice thrice all : List ℕ) (v a b c d : ℕ) where
  stored : once ≡ sets out 0 (u32_bytes a) → twice ≡ sets once 4 (u32_bytes b) → thrice ≡ sets twice 8 (u32_bytes c) → all ≡ sets thrice 12 (u32_bytes d)
      → length out ≡ 16 → v < 65536 → a ≡ 65537 * v → b ≡ 65537 * v → c ≡ 65537 * v → d ≡ 65537 * v
      → all ≡ words_to_bytes (replicate 8 v)
  unfolding words_to_bytes
  stored e f g h l small x y z w =
      h
      ∙ ap (λ (o : List ℕ). sets o 12 (u32_bytes d)) (g ∙ ap (λ (o : List ℕ). sets o 8 (u32_bytes c)) (f ∙ ap (λ (o : List ℕ). sets o 4 (u32_bytes b)) e))
      ∙ (λ i. sets (sets (sets (sets out 0 (two v a small x i)) 4 (two v b small y i)) 8 (two v c small z i)) 12 (two v d small w i))
      ∙ four-parts out (words_to_bytes (v ∷ (v ∷ []))) refl
      ∙ eight-fill out v l

pub returns : goal.returns
returns c =
    stored c.args.out.now c.put_long.new.out c.put_long-2.new.out c.put_long-3.new.out c.put_long-4.new.out c.args.v _ _ _ _
    c.put_long.ensures c.put_long-2.ensures c.put_long-3.ensures c.put_long-4.ensures c.requires
    (omega arith) (omega arith) (omega arith) (omega arith) (omega arith)
