-- Mirroring, exchanging, and the cells of a grid.
use Rattle.std.specs.Prelude.{ℕ, zero, suc, ◌+◌, ◌-◌, ◌*◌, ◌/◌, ◌%◌, ◌≤◌, ◌<◌, ◌≡◌, refl, Bool, true, false, cond}
use Rattle.std.proofs.Common.{◌∙◌, suc-mul, mul_comm, mul-zero, mul-le-mul_right, div-lt_iff_lt-mul, mod-eq_of_lt, add-zero, mod-lt, arith}
use Rattle.std.proofs.Math.Nat.{mul-add-div_right, mul-add-mod_self_right, div-eq_of_lt}
use Rattle.moves.specs.Moves.{mirror}

-- mirroring stays within, and twice is none
pub mirror_below : (far : Bool) (n i : ℕ) → i < n → mirror far n i < n
unfolding mirror
mirror_below true n i h = omega arith
mirror_below false n i h = h

pub mirror_twice : (far : Bool) (n i : ℕ) → i < n → mirror far n (mirror far n i) ≡ i
unfolding mirror
mirror_twice true n i h = omega arith
mirror_twice false n i h = refl

-- by the distance from the end that is counted from
pub mirror_down : (far : Bool) (n i e : ℕ) → i < n → e ≡ mirror far n 0 → i < e → e - i ≡ mirror far n i
unfolding mirror
mirror_down true n i e h m g = omega arith
mirror_down false n i e h m g = absurd (omega arith)

pub mirror_up : (far : Bool) (n i e : ℕ) → i < n → e ≡ mirror far n 0 → e ≤ i → i - e ≡ mirror far n i
unfolding mirror
mirror_up true n i e h m g = omega arith
mirror_up false n i e h m g = omega arith

-- exchanging two numbers stays within, twice is none, and their product stays
pub exchange_below : (c : Bool) {a b m n : ℕ} → a < m → b < n → cond c a b < cond c m n
exchange_below true h g = h
exchange_below false h g = g

pub exchange_twice : (c : Bool) (a b : ℕ) → cond c (cond c a b) (cond c b a) ≡ a
exchange_twice true a b = refl
exchange_twice false a b = refl

pub exchange_product : (c : Bool) (a b : ℕ) → cond c a b * cond c b a ≡ a * b
exchange_product true a b = refl
exchange_product false a b = mul_comm b a

-- the cell in row y and column x of a grid that is w wide and h tall
pub cell_below : (w h y x : ℕ) → y < h → x < w → y * w + x < h * w
cell_below w h y x a b = let g : suc y * w ≤ h * w = mul-le-mul_right w a in omega (arith, suc-mul y w)

pub cell_row : (w y x : ℕ) → x < w → (y * w + x) / w ≡ y
cell_row w y x h = mul-add-div_right {m = w} (omega arith) y x ∙ rw (div-eq_of_lt h) (add-zero y)

pub cell_column : (w y x : ℕ) → x < w → (y * w + x) % w ≡ x
cell_column w y x h = mul-add-mod_self_right y w x ∙ mod-eq_of_lt h

-- and the other way: cell q
wide : (w h q : ℕ) → q < h * w → 0 < w
wide zero h q a = absurd (omega (arith, mul-zero h))
wide (suc w) h q a = omega arith

pub row_below : (w h q : ℕ) → q < h * w → q / w < h
row_below w h q a = (div-lt_iff_lt-mul (wide w h q a)).1 a

pub column_below : (w h q : ℕ) → q < h * w → q % w < w
column_below w h q a = mod-lt q (wide w h q a)

-- a row ends before a later one starts
pub rows_apart : (w i y : ℕ) → i < y → i * w + w ≤ y * w
rows_apart w i y h = let g : suc i * w ≤ y * w = mul-le-mul_right w h in omega (arith, suc-mul i w)
