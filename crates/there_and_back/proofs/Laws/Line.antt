-- One good scanline that starts in the first column, from the bytes that are left: what is known of its header and its row, and that a
-- body as it is written makes the scanline that stands there.
use Rattle.std.specs.Prelude.{ℕ, zero, suc, ◌+◌, ◌-◌, ◌*◌, ◌%◌, ◌≤◌, ◌<◌, ◌≡◌, Bool, get_or, drop, ltb}
use Rattle.std.proofs.Math.Path.{refl, sym, ap, ap₂}
use Rattle.std.proofs.Common.{◌∙◌, length-take, get_or-take, get_or-drop, take-add}
use Rattle.std.proofs.Math.Bool.{true, false, cond}
use mathlib.Core.List.{List, ◌++◌}
use native.Mathlib.Omega.{arith}
use borrow.Author.Tests.{ltb-true, eqb-true, eqb-false, ltb-false, not-false}
use Rattle.std.proofs.Math.ListN.{length, take, get_or-eq_default}
use Rattle.std.proofs.Math.Seq.{length-take-le, length-sets}
use Rattle.std.proofs.Math.Dec.{eqb}
use Rattle.units.specs.Counts.{bytes_of_words, word_bytes}
use Rattle.units.specs.LittleEndian.{byte_at, u16_at}
use Rattle.units.specs.Over.{zeros}
use Rattle.units.specs.Rules.{first}
use Rattle.units.specs.Words.{word_count, two_bytes}
use Rattle.units.proofs.Laws.Rules.{none_holds}
use Rattle.units.proofs.Laws.Over.{sets_misses}
use Rattle.units.proofs.Laws.Below.{AllBelow, all_append}
use Rattle.packing.specs.Packing.{packed_count}
use Rattle.codec.specs.Codec.{row_of, fault, kept}
use Rattle.codec.specs.PackedPixels.{packed_rules, spare_set}
use Rattle.codec.specs.Table.{codec_of, body_pixels, body_extent, body_bytes}
use Rattle.numbering.specs.Numbering.{stored_number}
use Rattle.layout.specs.Scanline.{head_of, body_of, following, lost_rules, pixel_offset, body_width, placement_rules, row_pixels, headed_reading, open_reading, headed_step, open_step, step_of, reading_of, is_lost}
use Rattle.layout.proofs.Laws.Line.{NotLost, not-lost, is_not-lost, NoFault, no_fault, row_by_status}
use Rattle.layout.proofs.Laws.Written.{Heads}
use Rattle.transcode.specs.File.{fitted_header, new_line}
use Rattle.transcode.proofs.Laws.Lines.{head_eight}
use Rattle.there_and_back.specs.Statement.{IsBytes}
use Rattle.there_and_back.proofs.Laws.Levels.{TwoLevels, levels, packed_back}
use Rattle.there_and_back.proofs.Laws.Placing.{word_there, word_same}

-- parts of a file are bytes
pub bytes_take : (n : ℕ) (l : List ℕ) → IsBytes l → IsBytes (take n l)
bytes_take n l h i = go (ltb i n) refl
  where
    go : (b : Bool) → ltb i n ≡ b → get_or (take n l) i 0 < 256
    go true e = rw (get_or-take n l i 0 (ltb-true i n e)) (h i)
    go false e =
        let s : length (take n l) ≤ i = omega (arith, ltb-false i n e, length-take n l) in
        rw (get_or-eq_default (take n l) 0 {n = i} s) (omega arith)

pub bytes_drop : (n : ℕ) (l : List ℕ) → IsBytes l → IsBytes (drop n l)
bytes_drop n l h i = rw (get_or-drop n l i 0) (h (n + i))

zeros-low : (m : ℕ) → AllBelow 2 (zeros m)
zeros-low zero = tt
zeros-low (suc m) = (omega arith, zeros-low m)

-- a header that is fitted keeps its bytes but for W, and so its line number
fitted_elsewhere : (hd body : List ℕ) (j : ℕ) → (2 ≤ j → j < 4 → ⊥) → get_or (fitted_header hd body) j 0 ≡ get_or hd j 0
fitted_elsewhere hd body j h = sets_misses hd 2 (two_bytes ((word_count body).0 + 2)) j h

pub number-kept : (hd body : List ℕ) → stored_number (fitted_header hd body) ≡ stored_number hd
unfolding u16_at
number-kept hd body =
    ap₂ (λ (a b : ℕ). a + 256 * b) (fitted_elsewhere hd body 4 (λ a b. omega arith)) (fitted_elsewhere hd body 5 (λ a b. omega arith))

-- with a header
module _ (t p number : ℕ) (rest : List ℕ) (good : (headed_reading t p number rest).status ≡ 0) where
  none : NoFault t p number (head_of rest) (body_of rest)
  none = no_fault t p number (head_of rest) (body_of rest) good

  there : NotLost rest
  there = not-lost rest none.frame

  row_is : (headed_reading t p number rest).row ≡ row_pixels t p (head_of rest) (body_of rest)
  row_is = row_by_status t p number (head_of rest) (body_of rest) good

  headed_levels : TwoLevels t → AllBelow 2 (headed_reading t p number rest).row
  headed_levels two =
      rw row_is
      (all_append 2 (zeros (pixel_offset (head_of rest))) (body_pixels t (body_of rest) (body_width p (head_of rest)))
      (zeros-low (pixel_offset (head_of rest))) (levels t two (body_of rest) (body_width p (head_of rest))))

  eight : length (head_of rest) ≡ 8
  eight = head_eight t p number rest good

  module _ (column : pixel_offset (head_of rest) ≡ 0) where
    -- its header, fitted to any body
    pub heads : (body : List ℕ) → Heads (fitted_header (head_of rest) body) number body
    unfolding u16_at
    heads body =
        let hd = head_of rest in
        let w = (word_count body).0 + 2 in
        let lost = none_holds (lost_rules hd (body_of rest)) tt none.frame in
        let placed = none_holds (placement_rules p number hd) tt none.fields in
        let other = fitted_elsewhere hd body in
        record {
          eight = length-sets hd 2 (two_bytes w) ∙ eight;
          identifier = other 1 (λ a b. omega arith) ∙ eqb-true (byte_at hd 1) 0x59 (not-false (eqb (byte_at hd 1) 0x59) lost.1.0);
          follow = word_there hd 2 w (omega (arith, eight));
          line-number =
              number-kept hd body ∙ eqb-true (stored_number hd) number (not-false (eqb (stored_number hd) number) placed.0);
          offset = ap₂ (λ (a b : ℕ). a + 256 * b) (other 6 (λ a b. omega arith)) (other 7 (λ a b. omega arith)) ∙ column;
        }

    -- the body alone makes the row
    row_of-body : (headed_reading t p number rest).row ≡ body_pixels t (body_of rest) p
    row_of-body =
        row_is
        ∙ ap (λ (n : ℕ). zeros n ++ body_pixels t (body_of rest) (p - n)) column
        ∙ ap (λ (n : ℕ). body_pixels t (body_of rest) n) (omega arith)

    packed_rules_lem : t ≡ 1 → first (packed_rules (body_of rest) p) ≡ 0
    unfolding codec_of
    packed_rules_lem e =
        let w : body_width p (head_of rest) ≡ p = omega arith in
        rw (e, w) at none.body

    even : length (body_of rest) % 2 ≡ 0
    even = omega (arith, there.size)

    head_bytes : IsBytes rest → IsBytes (head_of rest)
    unfolding head_of
    head_bytes h = bytes_take 8 rest h

    head_body : take 8 rest ++ take (4 + (bytes_of_words (following (head_of rest))).0 - 8) (drop 8 rest) ≡ head_of rest ++ body_of rest
    unfolding head_of
    head_body = ap (λ (x : List ℕ). take 8 rest ++ x) (sym there.body)

    -- a scanline whose body is as written is what stands there
    headed_stands : IsBytes rest → body_of rest ≡ body_bytes t 1 (headed_reading t p number rest).row
        → fitted_header (head_of rest) (body_bytes t 1 (headed_reading t p number rest).row) ++ body_bytes t 1 (headed_reading t p number rest).row
        ≡ take (headed_step rest).used.0 rest
    headed_stands below written =
        let hd = head_of rest in
        let body = body_of rest in
        let l : is_lost rest ≡ false = is_not-lost rest none.frame in
        let size = 4 + (bytes_of_words (following hd)).0 in
        let w : (word_count body).0 + 2 ≡ u16_at hd 2 = omega (arith, there.size) in
        let s : size ≡ 8 + (size - 8) = omega (arith, there.size) in
        rw (← written, l, word_same hd 2 ((word_count body).0 + 2) w (head_bytes below))
        (sym (ap (λ (n : ℕ). take n rest) s ∙ take-add 8 (size - 8) rest ∙ head_body))

-- without one
module _ (t p : ℕ) (rest : List ℕ) (good : (open_reading t p rest).status ≡ 0) where
  open_row : (open_reading t p rest).row ≡ body_pixels t (take (body_extent t rest p).used.0 rest) p
  open_row = ap (λ (s : ℕ). row_of s p (body_pixels t (take (body_extent t rest p).used.0 rest) p)) good

  open_levels : TwoLevels t → AllBelow 2 (open_reading t p rest).row
  open_levels two = rw open_row (levels t two (take (body_extent t rest p).used.0 rest) p)

-- the body of a good scanline of type 1 is what is written of its row
good_spare : (over : Bool) (s n : ℕ) → (cond over (fault 1) (kept s n)).status ≡ 0 → (over ≡ false) × (s ≡ 0)
good_spare true s n h = absurd (omega arith)
good_spare false s n h = (refl, h)

spare_none : (b : Bool) → ◌≡◌ {A = ℕ} (cond b 10 0) 0 → b ≡ false
spare_none true h = absurd (omega arith)
spare_none false h = refl

module _ (p : ℕ) (rest : List ℕ) (below : IsBytes rest) where
  pub headed_packed : (number : ℕ) → (headed_reading 1 p number rest).status ≡ 0 → pixel_offset (head_of rest) ≡ 0
      → body_of rest ≡ body_bytes 1 1 (headed_reading 1 p number rest).row
  unfolding codec_of
  headed_packed number good column =
      let b = body_of rest in
      let n = there 1 p number rest good in
      let rules = none_holds (packed_rules b p) tt (packed_rules_lem 1 p number rest good column refl) in
      let below-body : IsBytes b = rw n.body (bytes_take (4 + (bytes_of_words (following (head_of rest))).0 - 8) (drop 8 rest) (bytes_drop 8 rest below)) in
      sym (packed_back b p below-body (even 1 p number rest good column)
      (eqb-true (word_count b).0 (packed_count p) (not-false (eqb (word_count b).0 (packed_count p)) rules.0)) rules.1.0)
      ∙ ap (λ (x : List ℕ). body_bytes 1 1 x) (sym (row_of-body 1 p number rest good column))

  pub open_packed : (open_reading 1 p rest).status ≡ 0 → take (open_step 1 p rest).used.0 rest ≡ body_bytes 1 0 (open_reading 1 p rest).row
  unfolding codec_of
  open_packed good =
      let m = packed_count p in
      let b = take (word_bytes m) rest in
      let x = good_spare (ltb (word_count rest).0 m) (cond (spare_set b p) 10 0) (word_bytes m) good in
      let n : m ≤ (word_count rest).0 = ltb-false (word_count rest).0 m x.0 in
      let l : length b ≡ word_bytes m = length-take-le (word_bytes m) rest (omega arith) in
      let unset = spare_none (spare_set b p) x.1 in
      rw (x.0, unset)
      (sym (packed_back b p (bytes_take (word_bytes m) rest below) (omega arith) (omega arith) unset))

-- by SCN
module _ (scn t p number : ℕ) (rest : List ℕ) (low : scn ≤ 1) (good : (reading_of scn t p number rest).status ≡ 0) where
  pub good_levels : TwoLevels t → AllBelow 2 (reading_of scn t p number rest).row
  good_levels two = go (eqb scn 1) good
    where
      go : (x : Bool) → (cond x (headed_reading t p number rest) (open_reading t p rest)).status ≡ 0
          → AllBelow 2 (cond x (headed_reading t p number rest) (open_reading t p rest)).row
      go true e = headed_levels t p number rest e two
      go false e = open_levels t p rest e two

  module _ (column : scn ≡ 1 → pixel_offset (head_of rest) ≡ 0) where
    pub good_heads : scn ≡ 1 → (body : List ℕ) → Heads (fitted_header (head_of rest) body) number body
    good_heads one body =
        let h : (headed_reading t p number rest).status ≡ 0 = rw one at good in
        heads t p number rest h (column one) body

    abbrev stored : List ℕ
    stored = cond (eqb scn 1) (body_of rest) (take (step_of scn t p rest).used.0 rest)

    -- a scanline of type 1 is stored as it is written
    pub packed_stored : IsBytes rest → t ≡ 1 → stored ≡ body_bytes t scn (reading_of scn t p number rest).row
    packed_stored below one = go (eqb scn 1) refl
      where
        go : (x : Bool) → eqb scn 1 ≡ x → cond x (body_of rest) (take (cond x (headed_step rest) (open_step t p rest)).used.0 rest)
            ≡ body_bytes t scn (cond x (headed_reading t p number rest) (open_reading t p rest)).row
        go true e =
            let s : scn ≡ 1 = eqb-true scn 1 e in
            let h : (headed_reading 1 p number rest).status ≡ 0 = rw (one, s) at good in
            rw (one, s) (headed_packed p rest below number h (column s))
        go false e =
            let n : scn ≡ 1 → ⊥ = eqb-false scn 1 e in
            let s : scn ≡ 0 = omega arith in
            let h : (open_reading 1 p rest).status ≡ 0 = rw (one, s) at good in
            rw (one, s) (open_packed p rest below h)

    -- and what is stored as it is written is what stands there
    pub line_stands : IsBytes rest → stored ≡ body_bytes t scn (reading_of scn t p number rest).row
        → new_line scn t (head_of rest) (reading_of scn t p number rest).row ≡ take (step_of scn t p rest).used.0 rest
    unfolding new_line
    line_stands below written = go (eqb scn 1) refl written
      where
        go : (x : Bool) → eqb scn 1 ≡ x
            → cond x (body_of rest) (take (cond x (headed_step rest) (open_step t p rest)).used.0 rest)
            ≡ body_bytes t scn (cond x (headed_reading t p number rest) (open_reading t p rest)).row
            → (let body = body_bytes t scn (cond x (headed_reading t p number rest) (open_reading t p rest)).row in
            cond x (fitted_header (head_of rest) body ++ body) body ≡ take (cond x (headed_step rest) (open_step t p rest)).used.0 rest)
        go true e w =
            let s : scn ≡ 1 = eqb-true scn 1 e in
            let h : (headed_reading t p number rest).status ≡ 0 = rw s at good in
            let v : body_of rest ≡ body_bytes t 1 (headed_reading t p number rest).row = rw s at w in
            rw s (headed_stands t p number rest h (column s) below v)
        go false e w = sym w
