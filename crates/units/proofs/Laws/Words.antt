-- Words of bytes: how many there are, one by one, by their index, and in the first bytes.
use Rattle.std.specs.Prelude.{ℕ, zero, suc, ◌+◌, ◌*◌, ◌/◌, ◌%◌, ◌≤◌, ◌<◌, min, ◌≡◌, refl, List, [], ◌∷◌, ◌++◌, length, get_or, take, drop}
use Rattle.std.proofs.Common.{ap, ap₂, ◌∙◌, append-nil, add-one, arith, drop-cons, take-take}
use Rattle.std.proofs.Math.Numerals.{add-two}
use Rattle.std.proofs.Math.Seq.{take-nil}
use Rattle.units.specs.LittleEndian.{u16_at}
use Rattle.units.specs.Counts.{word_bytes}
use Rattle.units.specs.Words.{words, words_to_bytes, word_count}
use Rattle.units.proofs.Laws.Over.{over_nil, over_more, over_least}

pub length-words : (s : List ℕ) → length (words s) ≡ (word_count s).0
unfolding words
length-words [] = refl
length-words (a ∷ []) = refl
length-words (a ∷ (b ∷ r)) = let h : length (words r) ≡ length r / 2 = length-words r in omega arith

-- the words from byte i on: one and the rest, or none
pub words-none : (s : List ℕ) (i : ℕ) → length s < i + 2 → words (drop i s) ≡ []
unfolding words
words-none [] zero h = refl
words-none [] (suc i) h = refl
words-none (a ∷ []) zero h = refl
words-none (a ∷ (b ∷ r)) zero h = absurd (let n : 2 ≤ length (a ∷ (b ∷ r)) = omega arith in omega arith)
words-none (a ∷ r) (suc i) h = words-none r i (omega arith)

pub words_step : (s : List ℕ) (i : ℕ) → i + 2 ≤ length s → words (drop i s) ≡ u16_at s i ∷ words (drop (i + 2) s)
unfolding words u16_at
words_step s i h =
    let h₁ : i < length s = omega arith in
    let h₂ : suc i < length s = omega arith in
    rw (add-two i, add-one i, drop-cons s i 0 h₁, drop-cons s (suc i) 0 h₂)

two_suc : (i : ℕ) → 2 * suc i ≡ suc (suc (2 * i))
two_suc i = omega arith

-- a word by its index
pub word_at : (b : List ℕ) (i : ℕ) → i < (word_count b).0 → get_or (words b) i 0 ≡ u16_at b (2 * i)
unfolding words u16_at
word_at [] i h = absurd (omega arith)
word_at (x ∷ []) i h = absurd (let n : length (x ∷ []) ≡ 1 = refl in omega arith)
word_at (x ∷ (y ∷ b)) zero h = refl
word_at (x ∷ (y ∷ b)) (suc i) h = word_at b i (omega arith) ∙ rw (two_suc i, add-one, add-one)

-- n words are in the first bytes that they take
pub words_take : (b : List ℕ) (n : ℕ) → words (take (word_bytes n) b) ≡ take n (words b)
unfolding words
words_take b zero = refl
words_take [] (suc n) = rw (two_suc n)
words_take (x ∷ []) (suc n) = rw (two_suc n)
words_take (x ∷ (y ∷ b)) (suc n) = rw (two_suc n) (ap (λ (ws : List ℕ). (x + 256 * y) ∷ ws) (words_take b n))

pub words-taken : (b : List ℕ) (n : ℕ) → take n (words (take (word_bytes n) b)) ≡ take n (words b)
words-taken b n = rw (words_take b n) (take-take n n (words b) (omega arith))

-- words written as bytes come back, also where bytes follow them
pub words-before : (ws rest : List ℕ) → words (words_to_bytes ws ++ rest) ≡ ws ++ words rest
unfolding words words_to_bytes
words-before [] rest = refl
words-before (w ∷ ws) rest =
    let e : w % 256 + 256 * (w / 256) ≡ w = omega arith in
    ap₂ (λ (x : ℕ) (r : List ℕ). x ∷ r) e (words-before ws rest)

pub words_back : (ws : List ℕ) → words (words_to_bytes ws) ≡ ws
unfolding words
words_back ws = rw (append-nil (words_to_bytes ws)) at (words-before ws [] ∙ append-nil ws)

-- bytes taken for words and stored again are the bytes, as far as there are whole words
pub bytes_back : (b : List ℕ) (p m : ℕ) → m ≡ min (word_count b).0 p → ((i : ℕ) → get_or b i 0 < 256) → words_to_bytes (take p (words b)) ≡ take (word_bytes m) b
unfolding words words_to_bytes
bytes_back [] p m e small = rw (take-nil {A = ℕ} p, take-nil {A = ℕ} (2 * m))
bytes_back (x ∷ []) p m e small =
    let n : length (x ∷ []) ≡ 1 = refl in
    let z : m ≡ 0 = omega arith in
    rw (take-nil {A = ℕ} p, z)
bytes_back (x ∷ (y ∷ r)) zero m e small = let z : m ≡ 0 = omega arith in rw z
bytes_back (x ∷ (y ∷ r)) (suc p) zero e small = absurd (let n : length (x ∷ (y ∷ r)) ≡ suc (suc (length r)) = refl in omega arith)
bytes_back (x ∷ (y ∷ r)) (suc p) (suc m) e small =
    let n : length (x ∷ (y ∷ r)) ≡ suc (suc (length r)) = refl in
    let a : x < 256 = small 0 in
    let low : (x + 256 * y) % 256 ≡ x = omega arith in
    let high : (x + 256 * y) / 256 ≡ y = omega arith in
    let more : m ≡ min (word_count r).0 p = omega arith in
    rw (two_suc m, low, high) (ap (λ (l : List ℕ). x ∷ (y ∷ l)) (bytes_back r p m more (λ i. small (suc (suc i)))))

-- a loop that puts words over a buffer
pub ruleset loading = (over_nil, over_more, over_least, length-words, word_at)
