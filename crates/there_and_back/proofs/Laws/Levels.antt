-- Types 1 and 9: every pixel is 0 or 1. And a body of type 1 that is good is what is written of its pixels.
use Rattle.std.specs.Prelude.{ℕ, zero, suc, ◌-◌, ◌%◌, ◌<◌, ◌≡◌, false, ◌⊎◌, List, [], ◌∷◌, length, replicate}
use Rattle.std.proofs.Common.{sym, ◌∙◌, ap, inl, inr, arith, take_all}
use Rattle.units.specs.Counts.{word_bytes}
use Rattle.units.specs.Words.{words, words_to_bytes, word_count}
use Rattle.units.proofs.Laws.Below.{AllBelow, all_below, all_append, all_take, words_below}
use Rattle.units.proofs.Laws.Words.{length-words, bytes_back}
use Rattle.packing.specs.Packing.{word_bits, packed_count}
use Rattle.packing.proofs.Laws.Bits.{word_bits_below}
use Rattle.packing.proofs.Laws.RoundTrip.{words_back}
use Rattle.codec.specs.PackedPixels.{packed_pixels, spare_set, packed_body}
use Rattle.codec.specs.RunPixels.{run_pixels}
use Rattle.codec.specs.Table.{codec_of, body_pixels}
use Rattle.there_and_back.specs.Statement.{IsBytes}

-- the two types
abbrev pub TwoLevels : ℕ → Type 0
TwoLevels t = (t ≡ 1) ⊎ (t ≡ 9)

same_below : (n v : ℕ) → v < 2 → AllBelow 2 (replicate n v)
same_below zero v h = tt
same_below (suc n) v h = (h, same_below n v h)

runs_below : (v : ℕ) (ws : List ℕ) → v < 2 → AllBelow 2 (run_pixels v ws)
unfolding run_pixels
runs_below v [] h = tt
runs_below v (n ∷ ws) h = all_append 2 (replicate n v) (run_pixels (1 - v) ws) (same_below n v h) (runs_below (1 - v) ws (omega arith))

pub levels : (t : ℕ) → TwoLevels t → (b : List ℕ) (p : ℕ) → AllBelow 2 (body_pixels t b p)
unfolding codec_of
levels t (inl e) b p = rw e (all_take 2 p (word_bits (words b)) (word_bits_below (words b)))
levels t (inr e) b p = rw e (runs_below 0 (words b) (omega arith))

pub packed_back : (b : List ℕ) (p : ℕ) → IsBytes b → length b % 2 ≡ 0 → (word_count b).0 ≡ packed_count p → spare_set b p ≡ false
    → packed_body (packed_pixels b p) ≡ b
packed_back b p below whole count unset =
    let m = (word_count b).0 in
    let w = words_back (words b) p (words_below b (all_below 256 b below)) (length-words b ∙ count) unset in
    ap words_to_bytes (w ∙ sym (take_all m (words b) (omega (arith, length-words b))))
    ∙ bytes_back b m m (omega arith) below
    ∙ take_all (word_bytes m) b (omega arith)
