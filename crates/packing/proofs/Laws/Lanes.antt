-- Sixteen pixels taken four at a time: each lane of a number of 64 bits has every fourth, and the lanes make the word.
use Rattle.std.specs.Prelude.{ℕ, ◌+◌, ◌*◌, ◌/◌, ◌%◌, ◌^◌, ◌≤◌, ◌<◌, ◌≡◌, refl, List, [], ◌∷◌, get_or, drop}
use Rattle.std.proofs.Common.{◌∙◌, ap, add-zero, arith, get_or-drop}
use Rattle.std.proofs.Math.Nat.{pow-zero, pow-le-pow_right}
use Rattle.std.specs.Int.Bits.{bit_and}
use Rattle.std.proofs.lemmas.Nat.{and_mask, and_block}
use Rattle.packing.specs.Packing.{level, number}
use Rattle.packing.specs.Lanes.{lanes, level_at, four_levels}
use Rattle.packing.proofs.Laws.Numbers.{number_split, number_lt}

-- one pixel more
number-one : (r : List ℕ) → number 1 r ≡ level (get_or r 0 0)
unfolding number
number-one [] = refl
number-one (x ∷ r) = omega (arith, pow-zero 2)

pub number_more : (row : List ℕ) (j : ℕ) → number (j + 1) row ≡ number j row + number j row + level_at row j
number_more row j =
    let e : get_or (drop j row) 0 0 ≡ get_or row j 0 = get_or-drop j row 0 0 ∙ ap (λ (k : ℕ). get_or row k 0) (add-zero j) in
    number_split j 1 row ∙ omega (arith, number-one (drop j row), ap level e)

-- there is room for it
pub number_room : (row : List ℕ) (j : ℕ) → j < 16 → number j row < 32768
number_room row j h =
    let p : 2 ^ j ≤ 2 ^ 15 = pow-le-pow_right {n = 2} (omega arith) {i = j} {j = 15} (omega arith) in
    omega (arith, number_lt j row)

-- the lowest bit of each lane
module _ (a b c d : ℕ) (ha : a < 65536) (hb : b < 65536) (hc : c < 65536) where
  and_one : (x : ℕ) → bit_and x 1 ≡ level x
  and_one x = and_mask x 1

  pub lanes_masked : bit_and (lanes a b c d) 281479271743489 ≡ lanes (level a) (level b) (level c) (level d)
  lanes_masked =
      let l : lanes a b c d ≡ ((d * 65536 + c) * 65536 + b) * 65536 + a = omega arith in
      rw (
        l,
        and_block 16 ((d * 65536 + c) * 65536 + b) 4295032833 a 1 ha (omega arith),
        and_block 16 (d * 65536 + c) 65537 b 1 hb (omega arith),
        and_block 16 d 1 c 1 hc (omega arith),
        and_one a,
        and_one b,
        and_one c,
        and_one d,
      )
      (omega arith)

-- a lane by itself
module _ (a b c d : ℕ) (ha : a < 65536) (hb : b < 65536) (hc : c < 65536) (hd : d < 65536) where
  lane_a : lanes a b c d % 65536 ≡ a
  lane_a = omega arith

  lane_b : lanes a b c d / 65536 % 65536 ≡ b
  lane_b = omega arith

  lane_c : lanes a b c d / 4294967296 % 65536 ≡ c
  lane_c = omega arith

  lane_d : lanes a b c d / 281474976710656 ≡ d
  lane_d = omega arith

-- the sixteen pixels that all lanes have make the word
pub sixteen : (row : List ℕ) (s : ℕ) → s ≡ ((four_levels row 0 * 16 + four_levels row 4) * 16 + four_levels row 8) * 16 + four_levels row 12
    → 8 * (s % 65536) + 4 * (s / 65536 % 65536) + (s / 4294967296 % 65536 + s / 4294967296 % 65536) + s / 281474976710656 ≡ number 16 row
unfolding number
sixteen row s e =
    let a = ((level_at row 0 * 16 + level_at row 4) * 16 + level_at row 8) * 16 + level_at row 12 in
    let b = ((level_at row 1 * 16 + level_at row 5) * 16 + level_at row 9) * 16 + level_at row 13 in
    let c = ((level_at row 2 * 16 + level_at row 6) * 16 + level_at row 10) * 16 + level_at row 14 in
    let d = ((level_at row 3 * 16 + level_at row 7) * 16 + level_at row 11) * 16 + level_at row 15 in
    let ha : a < 65536 = omega arith in
    let hb : b < 65536 = omega arith in
    let hc : c < 65536 = omega arith in
    let hd : d < 65536 = omega arith in
    let l : s ≡ lanes a b c d = omega arith in
    let n : 8 * a + 4 * b + (c + c) + d ≡ number 16 row = omega (arith, number_more row 0, number_more row 1, number_more row 2, number_more row 3, number_more row 4, number_more row 5, number_more row 6, number_more row 7, number_more row 8, number_more row 9, number_more row 10, number_more row 11, number_more row 12, number_more row 13, number_more row 14, number_more row 15) in
    rw (l, lane_a a b c d ha hb hc hd, lane_b a b c d ha hb hc hd, lane_c a b c d ha hb hc hd, lane_d a b c d ha hb hc hd) n

pub ruleset first_pixels = (number_more, number_room)
