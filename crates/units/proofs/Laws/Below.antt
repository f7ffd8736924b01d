-- Numbers below a bound: lists, and words as bytes.
use Rattle.std.specs.Prelude.{ℕ, zero, suc, ◌<◌, List, [], ◌∷◌, ◌++◌, get_or, take, drop}
use Rattle.std.proofs.Common.{arith}
use Rattle.units.specs.Words.{words, words_to_bytes}

-- every number of a list is below n
abbrev pub AllBelow : ℕ → List ℕ → Type 0
AllBelow n [] = Unit {0}
AllBelow n (x ∷ xs) = (x < n) × AllBelow n xs

-- place by place
pub all_below : (n : ℕ) (xs : List ℕ) → ((i : ℕ) → get_or xs i 0 < n) → AllBelow n xs
all_below n [] h = tt
all_below n (x ∷ xs) h = (h 0, all_below n xs (λ i. h (suc i)))

pub all_append : (n : ℕ) (xs ys : List ℕ) → AllBelow n xs → AllBelow n ys → AllBelow n (xs ++ ys)
all_append n [] ys h g = g
all_append n (x ∷ xs) ys h g = (h.0, all_append n xs ys h.1 g)

pub all_take : (n i : ℕ) (xs : List ℕ) → AllBelow n xs → AllBelow n (take i xs)
all_take n zero xs b = tt
all_take n (suc i) [] b = tt
all_take n (suc i) (x ∷ xs) b = (b.0, all_take n i xs b.1)

pub all_drop : (n i : ℕ) (xs : List ℕ) → AllBelow n xs → AllBelow n (drop i xs)
all_drop n zero xs b = b
all_drop n (suc i) [] b = b
all_drop n (suc i) (x ∷ xs) b = all_drop n i xs b.1

-- a word below 65,536 is two bytes, and two bytes are such a word
pub bytes_below : (ws : List ℕ) → AllBelow 65536 ws → AllBelow 256 (words_to_bytes ws)
unfolding words_to_bytes
bytes_below [] h = tt
bytes_below (w ∷ ws) h = let l : w < 65536 = h.0 in (omega arith, (omega arith, bytes_below ws h.1))

pub words_below : (b : List ℕ) → AllBelow 256 b → AllBelow 65536 (words b)
unfolding words
words_below [] h = tt
words_below (x ∷ []) h = tt
words_below (x ∷ (y ∷ b)) h = let l : x < 256 = h.0 in let g : y < 256 = h.1.0 in (omega arith, words_below b h.1.1)
