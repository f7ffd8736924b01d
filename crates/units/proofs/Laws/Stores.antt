-- Words as bytes: laws of `words_to_bytes`, and of the stores that put a word, or a number of 32 bits, where it belongs.
use Rattle.std.specs.Prelude.{ℕ, zero, suc, ◌+◌, ◌*◌, ◌%◌, ◌/◌, ◌^◌, ◌≤◌, ◌<◌, ◌≡◌, refl, Bool, true, false, List, [], ◌∷◌, ◌++◌, length, get_or, take, drop, set, replicate, ltb}
use Rattle.std.proofs.Common.{sym, ◌∙◌, ap, add-one, arith, inl, inr, drop_of_length-le, length-set, drop-cons, length-take-le, take_all, ltb-true, ltb-false}
use Rattle.std.proofs.Math.Numerals.{add-two}
use Rattle.std.proofs.Math.Nat.{div-div-eq-div-mul}
use Rattle.std.proofs.lemmas.Bool.{cases_lt}
use Rattle.std.proofs.lemmas.List.{length-replicate, get_or-replicate, take-replicate, take-append-drop, take_more}
use Rattle.std.proofs.lemmas.List.Edits.{sets}
use Rattle.std.proofs.Math.Seq.{set_out, length-sets}
use Rattle.units.specs.Counts.{word_bytes}
use Rattle.units.specs.LittleEndian.{u16_bytes, u32_bytes}
use Rattle.units.specs.Over.{over, zeros}
use Rattle.units.specs.Words.{two_bytes, words_to_bytes}
use Rattle.units.proofs.Laws.Over.{sets_past, sets-append, over_nil, over_append, over_full, length_over}

pub length-bytes : (ws : List ℕ) → length (words_to_bytes ws) ≡ 2 * length ws
unfolding words_to_bytes
length-bytes [] = refl
length-bytes (w ∷ r) = omega (arith, length-bytes r)

pub bytes-append : (a b : List ℕ) → words_to_bytes (a ++ b) ≡ words_to_bytes a ++ words_to_bytes b
unfolding words_to_bytes
bytes-append [] b = refl
bytes-append (w ∷ a) b = ap (λ (l : List ℕ). w % 256 ∷ (w / 256 ∷ l)) (bytes-append a b)

-- one word, then the others
pub sets_word : (out : List ℕ) (at w : ℕ) (r : List ℕ)
    → sets out at (words_to_bytes (w ∷ r)) ≡ sets (sets out at (w % 256 ∷ (w / 256 ∷ []))) (at + 2) (words_to_bytes r)
unfolding words_to_bytes
sets_word out at w r = rw (add-two at)

-- pixel i of a row, then those behind it
pub sets_pixel : (row out : List ℕ) (i : ℕ) → i < length row
    → sets out (2 * i) (words_to_bytes (drop i row))
    ≡ sets (set (set out (2 * i) (get_or row i 0 % 256)) (2 * i + 1) (get_or row i 0 / 256)) (2 * (i + 1)) (words_to_bytes (drop (i + 1) row))
unfolding words_to_bytes
sets_pixel row out i h =
    let e : 2 * (i + 1) ≡ suc (suc (2 * i)) = omega arith in
    rw (e, add-one (2 * i), add-one i, drop-cons row i 0 h)

-- A loop that stores words over a buffer, one a turn: none yet, the next, and no room for more.
pub over_none : (old : List ℕ) → over (words_to_bytes []) old ≡ old
unfolding words_to_bytes
over_none old = over_nil old

pub over_word : (ws old : List ℕ) (i : ℕ) → i < length ws
    → over (words_to_bytes (take (i + 1) ws)) old
    ≡ set (set (over (words_to_bytes (take i ws)) old) (2 * i) (get_or ws i 0 % 256)) (2 * i + 1) (get_or ws i 0 / 256)
unfolding words_to_bytes
over_word ws old i h =
    let l : length (words_to_bytes (take i ws)) ≡ 2 * i = length-bytes (take i ws) ∙ ap (λ (k : ℕ). 2 * k) (length-take-le i ws (omega arith)) in
    ap (λ (l : List ℕ). over (words_to_bytes l) old) (take_more ws i 0 h)
    ∙ ap (λ (l : List ℕ). over l old) (bytes-append (take i ws) (get_or ws i 0 ∷ []))
    ∙ over_append (words_to_bytes (take i ws)) (two_bytes (get_or ws i 0)) old
    ∙ ap (λ (k : ℕ). sets (over (words_to_bytes (take i ws)) old) k (two_bytes (get_or ws i 0))) l
    ∙ rw (add-one (2 * i))

pub over_room : (ws old : List ℕ) (n : ℕ) → length old ≤ 2 * n → over (words_to_bytes (take n ws)) old ≡ over (words_to_bytes ws) old
over_room ws old n h =
    elim (cases_lt (length ws) n) [ inl few ↦ ap (λ (l : List ℕ). over (words_to_bytes l) old) (take_all n ws (omega arith)) | inr enough ↦ cut enough ]
  where
    cut : n ≤ length ws → over (words_to_bytes (take n ws)) old ≡ over (words_to_bytes ws) old
    cut enough =
        let front = words_to_bytes (take n ws) in
        let l : length front ≡ 2 * n = length-bytes (take n ws) ∙ ap (λ (k : ℕ). 2 * k) (length-take-le n ws enough) in
        let k : length (over front old) ≡ length old = length_over front old in
        sym (sets_past (over front old) (length front) (words_to_bytes (drop n ws)) (omega arith))
        ∙ sym (over_append front (words_to_bytes (drop n ws)) old)
        ∙ ap (λ (l : List ℕ). over l old) (sym (bytes-append (take n ws) (drop n ws)))
        ∙ ap (λ (l : List ℕ). over (words_to_bytes l) old) (take-append-drop n ws)

-- no pixel is left
pub sets-none : (row out : List ℕ) (i : ℕ) → length row ≤ i → sets out (2 * i) (words_to_bytes (drop i row)) ≡ out
unfolding words_to_bytes
sets-none row out i h = rw (drop_of_length-le row {i = i} h)

-- pixels are left, and the buffer ends with the first of them
pub sets_last : (row out : List ℕ) (i : ℕ) → i < length row → length out ≤ 2 * i + 2
    → sets out (2 * i) (words_to_bytes (drop i row)) ≡ sets out (2 * i) (get_or row i 0 % 256 ∷ (get_or row i 0 / 256 ∷ []))
sets_last row out i h g =
    let v = get_or row i 0 % 256 ∷ (get_or row i 0 / 256 ∷ []) in
    rw (drop-cons row i 0 h, sets_word out (2 * i) (get_or row i 0) (drop (suc i) row))
    (sets_past (sets out (2 * i) v) (2 * i + 2) (words_to_bytes (drop (suc i) row)) (omega (arith, length-sets out (2 * i) v)))

-- one word over and over: the next one, and the last, where there is room for one at most
module _ (out : List ℕ) (m w i : ℕ) where
  pub sets_same : i < m
      → sets out (2 * i) (words_to_bytes (drop i (replicate m w)))
      ≡ sets (set (set out (2 * i) (w % 256)) (2 * i + 1) (w / 256)) (2 * (i + 1)) (words_to_bytes (drop (i + 1) (replicate m w)))
  sets_same h =
      rw (get_or-replicate m i w 0 h) at (sets_pixel (replicate m w) out i (omega (arith, length-replicate m w)))

  pub same_last : length out ≤ m → length out ≤ 2 * i + 2 → sets out (2 * i) (words_to_bytes (drop i (replicate m w))) ≡ sets out (2 * i) (two_bytes w)
  same_last k g = go (ltb i m) refl
    where
      go : (b : Bool) → ltb i m ≡ b → sets out (2 * i) (words_to_bytes (drop i (replicate m w))) ≡ sets out (2 * i) (two_bytes w)
      go true e =
          let h : i < m = ltb-true i m e in
          rw (get_or-replicate m i w 0 h) at (sets_last (replicate m w) out i (omega (arith, length-replicate m w)) g)
      go false e =
          let h : m ≤ i = ltb-false i m e in
          sets_past out (2 * i) (words_to_bytes (drop i (replicate m w))) (omega arith) ∙ sym (sets_past out (2 * i) (two_bytes w) (omega arith))

-- a byte as a word: the next one, and the last, where there is room for no whole one
module _ (bytes out : List ℕ) (i : ℕ) (h : i < length bytes) (small : get_or bytes i 0 < 256) where
  low : get_or bytes i 0 % 256 ≡ get_or bytes i 0
  low = omega arith

  high : get_or bytes i 0 / 256 ≡ 0
  high = omega arith

  pub sets_byte : sets out (2 * i) (words_to_bytes (drop i bytes))
      ≡ sets (set (set out (2 * i) (get_or bytes i 0)) (2 * i + 1) 0) (2 * (i + 1)) (words_to_bytes (drop (i + 1) bytes))
  sets_byte = rw (low, high) at (sets_pixel bytes out i h)

  pub byte_last : length out ≤ 2 * i + 1 → sets out (2 * i) (words_to_bytes (drop i bytes)) ≡ set out (2 * i) (get_or bytes i 0)
  byte_last g =
      (rw (low, high) at (sets_last bytes out i h (omega arith)))
      ∙ set_out (set out (2 * i) (get_or bytes i 0)) (suc (2 * i)) 0 (omega (arith, length-set out (2 * i) (get_or bytes i 0)))

-- the first bytes of one word over and over, however often
pub take-same_bytes : (m a b w : ℕ) → m ≤ 2 * a → m ≤ 2 * b → take m (words_to_bytes (replicate a w)) ≡ take m (words_to_bytes (replicate b w))
unfolding words_to_bytes
take-same_bytes zero a b w h g = refl
take-same_bytes (suc m) zero b w h g = absurd (omega arith)
take-same_bytes (suc m) (suc a) zero w h g = absurd (omega arith)
take-same_bytes (suc zero) (suc a) (suc b) w h g = refl
take-same_bytes (suc (suc m)) (suc a) (suc b) w h g =
    ap (λ (l : List ℕ). w % 256 ∷ (w / 256 ∷ l)) (take-same_bytes m a b w (omega arith) (omega arith))

-- one word over and over
pub over_same : (old : List ℕ) (i w : ℕ)
    → over (words_to_bytes (replicate (i + 1) w)) old
    ≡ set (set (over (words_to_bytes (replicate i w)) old) (2 * i) (w % 256)) (2 * i + 1) (w / 256)
over_same old i w =
    let ws = replicate (i + 1) w in
    let l : length ws ≡ i + 1 = length-replicate (i + 1) w in
    let all : take (i + 1) ws ≡ ws = take_all (i + 1) ws (omega arith) in
    let front : take i ws ≡ replicate i w = take-replicate i (i + 1) w (omega arith) in
    let next : get_or ws i 0 ≡ w = get_or-replicate (i + 1) i w 0 (omega arith) in
    rw (all, front, next) at (over_word ws old i (omega arith))

pub same_room : (old : List ℕ) (n w : ℕ) → length old ≤ 2 * n
    → over (words_to_bytes (replicate n w)) old ≡ over (words_to_bytes (replicate (length old) w)) old
same_room old n w h =
    let l = length-bytes (replicate n w) ∙ ap (λ (k : ℕ). 2 * k) (length-replicate n w) in
    let k = length-bytes (replicate (length old) w) ∙ ap (λ (k : ℕ). 2 * k) (length-replicate (length old) w) in
    over_full (words_to_bytes (replicate n w)) old (omega arith)
    ∙ take-same_bytes (length old) n (length old) w h (omega arith)
    ∙ sym (over_full (words_to_bytes (replicate (length old) w)) old (omega arith))

pub ruleset storing = (over_none, over_word, over_room, over_same, same_room)

-- the two bytes of a number of 16 bits, and of the low half of one of 32
pub high_byte : {v : ℕ} → v < 65536 → v / 256 % 256 ≡ v / 256
high_byte {v} h = omega arith

low_half : (v : ℕ) → two_bytes (v % 65536) ≡ u16_bytes v
low_half v =
    let e : v % 65536 % 256 ≡ v % 256 = omega arith in
    let f : v % 65536 / 256 ≡ v / 256 % 256 = omega (arith, div-div-eq-div-mul v 256 256) in
    rw (e, f)

high_half : {v : ℕ} → v < 2 ^ 32 → two_bytes (v / 65536) ≡ u16_bytes (v / 65536)
high_half {v} h = rw (high_byte {v = v / 65536} (omega arith))

pub long_bytes : {v : ℕ} → v < 2 ^ 32 → (out : List ℕ) (at : ℕ)
    → sets (sets out at (two_bytes (v % 65536))) (at + 2) (two_bytes (v / 65536)) ≡ sets out at (u32_bytes v)
long_bytes {v} h out at =
    (λ k. sets (sets out at (low_half v k)) (at + 2) (high_half h k)) ∙ sym (sets-append out at (u16_bytes v) (u16_bytes (v / 65536)))

-- pixels 0 are bytes 0
pub zero-bytes : (n : ℕ) → words_to_bytes (zeros n) ≡ zeros (word_bytes n)
unfolding words_to_bytes
zero-bytes zero = refl
zero-bytes (suc n) =
    let e : word_bytes (suc n) ≡ suc (suc (word_bytes n)) = omega arith in
    rw e (ap (λ (l : List ℕ). 0 ∷ (0 ∷ l)) (zero-bytes n))
