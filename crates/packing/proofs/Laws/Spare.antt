-- The spare bits: those of the last word that no pixel has.
use Rattle.std.specs.Prelude.{ℕ, zero, suc, ◌+◌, ◌-◌, ◌*◌, ◌/◌, ◌%◌, ◌^◌, ◌≤◌, ◌<◌, ◌≡◌, refl, false, not, List, [], ◌∷◌, get_or, drop, eqb}
use Rattle.std.proofs.Common.{◌∙◌, ap, append-nil, one-mul, arith, drop_of_length-le, shl_exact}
use Rattle.std.proofs.Math.ListN.{length}
use Rattle.std.proofs.Math.Seq.{drop-append-add}
use Rattle.units.specs.Counts.{word_bytes}
use Rattle.units.specs.LittleEndian.{u16_at}
use Rattle.units.specs.Words.{words, word_count}
use Rattle.units.proofs.Laws.Words.{length-words, word_at}
use Rattle.packing.specs.Packing.{bits, word_bits, packed_count, any_set}
use Rattle.packing.proofs.Laws.Bits.{length-bits, length-word_bits, drop_bits, any_bits}

last_bits : (k s : ℕ) (ws : List ℕ) → length ws ≡ suc k → s ≤ 16 → drop (16 * k + s) (word_bits ws) ≡ bits (16 - s) (get_or ws k 0)
unfolding word_bits
last_bits k s [] l h = absurd (omega arith)
last_bits zero s (w ∷ []) l h =
    let e : s + (16 - s) ≡ 16 = omega arith in
    let z : 16 * 0 + s ≡ s = omega arith in
    rw (z, append-nil (bits 16 w)) (rw e at (drop_bits s (16 - s) w))
last_bits zero s (w ∷ (v ∷ ws)) l h = absurd (omega arith)
last_bits (suc k) s (w ∷ ws) l h =
    let e : 16 * suc k + s ≡ length (bits 16 w) + (16 * k + s) = omega (arith, length-bits 16 w) in
    rw (e, drop-append-add (bits 16 w) (word_bits ws) (16 * k + s)) (last_bits k s ws (omega arith) h)

-- of as many words as hold p pixels
module _ (b : List ℕ) (p : ℕ) (count : (word_count b).0 ≡ packed_count p) where
  pub spare_none : p % 16 ≡ 0 → any_set (drop p (word_bits (words b))) ≡ false
  unfolding any_set
  spare_none h =
      let l : length (word_bits (words b)) ≤ p = omega (arith, length-word_bits (words b), length-words b) in
      rw (drop_of_length-le (word_bits (words b)) {i = p} l)

  pub spare_some : (p % 16 ≡ 0 → ⊥)
      → any_set (drop p (word_bits (words b))) ≡ not (eqb (u16_at b (word_bytes (p / 16)) % 2 ^ (16 - p % 16)) 0)
  spare_some h =
      let k = p / 16 in
      let s = p % 16 in
      let e : p ≡ 16 * k + s = omega arith in
      let l : length (words b) ≡ suc k = length-words b ∙ count ∙ omega arith in
      let i : k < (word_count b).0 = omega arith in
      ap (λ (m : ℕ). any_set (drop m (word_bits (words b)))) e
      ∙ ap any_set (last_bits k s (words b) l (omega arith) ∙ ap (λ (w : ℕ). bits (16 - s) w) (word_at b k i))
      ∙ any_bits (16 - s) (u16_at b (word_bytes k))

-- what the last word is divided by
pub divisor : (p : ℕ) → (p % 16 ≡ 0 → ⊥) → 1 * 2 ^ (16 - p % 16) % 65536 ≡ 2 ^ (16 - p % 16)
divisor p h = shl_exact 1 (16 - p % 16) 16 (omega arith) (small (p % 16) (λ q. h q)) ∙ one-mul (2 ^ (16 - p % 16))
  where
    small : (s : ℕ) → (s ≡ 0 → ⊥) → 1 + (16 - s) ≤ 16
    small zero f = absurd (f refl)
    small (suc s) f = omega arith
