-- Laws of one scanline: its header, where it is lost, its status, the row's length and the bytes that it uses.
use Rattle.std.specs.Prelude.{ℕ, ◌+◌, ◌-◌, ◌≤◌, ◌<◌, ◌≡◌, refl, Bool, true, false, cond, List, [], ◌∷◌, ◌++◌, length, take, drop, replicate, eqb, ltb}
use Rattle.std.proofs.Common.{◌∙◌, arith, length-drop, length-append, lt-ltb, le-ltb, eq-eqb, ne_eqb, ltb-false, eqb-true}
use Rattle.std.proofs.Math.Path.{ap}
use Rattle.std.proofs.Math.ListN.{length-take}
use Rattle.std.proofs.lemmas.List.{length-replicate}
use Rattle.std.proofs.Math.Seq.{get_or-take}
use Rattle.std.proofs.lemmas.Bool.{not-false}
use Rattle.units.specs.Counts.{bytes_of_words, word_bytes}
use Rattle.units.specs.LittleEndian.{byte_at, u16_at}
use Rattle.units.specs.Over.{zeros}
use Rattle.units.specs.Rules.{Rule, rule, first}
use Rattle.units.proofs.Laws.Rules.{NoneHolds, none_holds, first_here, first_later, both_none}
use Rattle.codec.specs.Codec.{row_of}
use Rattle.codec.specs.Table.{body_rules, body_pixels, body_extent}
use Rattle.codec.proofs.Laws.Lawful.{lawful}
use Rattle.layout.specs.Scanline.{head_of, following, body_size, head_rules, body_of, lost_rules, pixel_offset, body_width, placement_rules, row_pixels, reading, is_lost, headed_reading, open_reading, headed_step, open_step, step_of, reading_of}

-- the header's fields, where they stand in the bytes that are left
module _ (rest : List ℕ) where
  pub head_byte : (i : ℕ) → i < 8 → byte_at (head_of rest) i ≡ byte_at rest i
  unfolding head_of
  head_byte i h = get_or-take 8 rest i 0 h

  pub head_word : (i : ℕ) → i + 1 < 8 → u16_at (head_of rest) i ≡ u16_at rest i
  unfolding head_of u16_at
  head_word i h = rw (get_or-take 8 rest i 0 (omega arith), get_or-take 8 rest (i + 1) 0 h)

  head_short : length rest < 8 → length (head_of rest) < 8
  unfolding head_of
  head_short h = rw (length-take 8 rest) (omega arith)

  head_whole : 8 ≤ length rest → 8 ≤ length (head_of rest)
  unfolding head_of
  head_whole h = rw (length-take 8 rest) (omega arith)

  rest-whole : 8 ≤ length (head_of rest) → 8 ≤ length rest
  unfolding head_of
  rest-whole h = omega (arith, length-take 8 rest)

  body_is : first (head_rules (head_of rest)) ≡ 0 → body_of rest ≡ take (body_size (head_of rest)).0 (drop 8 rest)
  unfolding body_of
  body_is h = rw (eq-eqb (first (head_rules (head_of rest))) 0 h)

-- how a scanline is lost, by the tests in their order
module _ (rest : List ℕ) where
  abbrev pub lost_by : ℕ
  lost_by = first (lost_rules (head_of rest) (body_of rest))

  pub lost_short : length rest < 8 → lost_by ≡ 1
  lost_short h = simp (lt-ltb _ _ (head_short rest h))

  module _ (whole : 8 ≤ length rest) where
    pub lost_identifier : (byte_at rest 1 ≡ 0x59 → ⊥) → lost_by ≡ 2
    lost_identifier h = simp (le-ltb _ _ (head_whole rest whole), head_byte rest 1 (omega arith), ne_eqb _ _ h)

    module _ (right : byte_at rest 1 ≡ 0x59) where
      pub lost-following : u16_at rest 2 < 2 → lost_by ≡ 3
      lost-following h =
          simp (le-ltb _ _ (head_whole rest whole), head_byte rest 1 (omega arith), eq-eqb _ _ right, head_word rest 2 (omega arith), lt-ltb _ _ h)

      module _ (enough : 2 ≤ u16_at rest 2) where
        head_good : first (head_rules (head_of rest)) ≡ 0
        head_good =
            simp (le-ltb _ _ (head_whole rest whole), head_byte rest 1 (omega arith), eq-eqb _ _ right, head_word rest 2 (omega arith), le-ltb _ _ enough)

        length-body : length (body_of rest) ≡ length (take (body_size (head_of rest)).0 (drop 8 rest))
        length-body = ap length (body_is rest head_good)

        by_body : lost_by ≡ first (rule 1 (ltb (length (body_of rest)) (body_size (head_of rest)).0) ∷ [])
        by_body = first_later (head_rules (head_of rest)) (rule 1 (ltb (length (body_of rest)) (body_size (head_of rest)).0) ∷ []) tt head_good

        pub lost-body : length rest < 4 + word_bytes (u16_at rest 2) → lost_by ≡ 1
        lost-body h =
            let n : length (body_of rest) < (body_size (head_of rest)).0 =
            omega (arith, head_word rest 2 (omega arith), length-body, length-take (body_size (head_of rest)).0 (drop 8 rest), length-drop 8 rest) in
            by_body ∙ simp (lt-ltb _ _ n)

        pub lost-not : 4 + word_bytes (u16_at rest 2) ≤ length rest → lost_by ≡ 0
        lost-not h =
            let n : (body_size (head_of rest)).0 ≤ length (body_of rest) =
            omega (arith, head_word rest 2 (omega arith), length-body, length-take (body_size (head_of rest)).0 (drop 8 rest), length-drop 8 rest) in
            by_body ∙ simp (le-ltb _ _ n)

-- what holds of a scanline with a header that is not lost
pub record NotLost (rest : List ℕ) : Type 0 where
  pub whole : 8 ≤ length rest
  pub words : 2 ≤ (following (head_of rest)).0
  pub within : 4 + (bytes_of_words (following (head_of rest))).0 ≤ length rest
  pub size : 4 + (bytes_of_words (following (head_of rest))).0 ≡ 8 + length (body_of rest)
  pub body : body_of rest ≡ take (4 + (bytes_of_words (following (head_of rest))).0 - 8) (drop 8 rest)

pub not-lost : (rest : List ℕ) → lost_by rest ≡ 0 → NotLost rest
not-lost rest e =
    let hd = head_of rest in
    let r : NoneHolds (lost_rules hd (body_of rest)) = none_holds (lost_rules hd (body_of rest)) tt e in
    let passed : first (head_rules hd) ≡ 0 = simp (r.0, r.1.0, r.1.1.0) in
    let b : body_of rest ≡ take (body_size hd).0 (drop 8 rest) = body_is rest passed in
    let full : (body_size hd).0 ≤ length (body_of rest) = ltb-false (length (body_of rest)) (body_size hd).0 r.1.1.1.0 in
    let l : 8 ≤ length rest = rest-whole rest (ltb-false (length hd) 8 r.0) in
    let w : 2 ≤ (following hd).0 = ltb-false (following hd).0 2 r.1.1.0 in
    let n : (body_size hd).0 ≡ 4 + (bytes_of_words (following hd)).0 - 8 = omega arith in
    let s : length (body_of rest) ≡ length (take (body_size hd).0 (drop 8 rest)) = ap length b in
    record {
      whole = l;
      words = w;
      within = omega (arith, length-take (body_size hd).0 (drop 8 rest), length-drop 8 rest);
      size = omega (arith, length-take (body_size hd).0 (drop 8 rest), length-drop 8 rest);
      body = rw n at b;
    }

-- whether it is lost
pub is_lost_lem : (rest : List ℕ) → (lost_by rest ≡ 0 → ⊥) → is_lost rest ≡ true
unfolding is_lost
is_lost_lem rest h = rw (ne_eqb (lost_by rest) 0 h)

pub is_not-lost : (rest : List ℕ) → lost_by rest ≡ 0 → is_lost rest ≡ false
unfolding is_lost
is_not-lost rest h = rw (eq-eqb (lost_by rest) 0 h)

pub kept : (rest : List ℕ) → is_lost rest ≡ false → NotLost rest
unfolding is_lost
kept rest h = not-lost rest (eqb-true (lost_by rest) 0 (not-false (eqb (lost_by rest) 0) h))

-- the status of a scanline with a header: that of the first part of the table that has one
module _ (t p number : ℕ) (hd body : List ℕ) where
  -- the rules of a scanline that is not lost
  abbrev pub kept_rules : List Rule
  kept_rules = placement_rules p number hd ++ body_rules t body (body_width p hd)

  pub status_lost : (first (lost_rules hd body) ≡ 0 → ⊥) → (reading t p number hd body).status ≡ first (lost_rules hd body)
  unfolding reading
  status_lost some = first_here (lost_rules hd body) kept_rules some

  module _ (none : first (lost_rules hd body) ≡ 0) where
    pub past_lost : (reading t p number hd body).status ≡ first kept_rules
    unfolding reading
    past_lost = first_later (lost_rules hd body) kept_rules tt none

    pub status_field : (first (placement_rules p number hd) ≡ 0 → ⊥) → (reading t p number hd body).status ≡ first (placement_rules p number hd)
    status_field some = past_lost ∙ first_here (placement_rules p number hd) (body_rules t body (body_width p hd)) some

    pub status_body : first (placement_rules p number hd) ≡ 0 → (reading t p number hd body).status ≡ first (body_rules t body (body_width p hd))
    status_body none₂ = past_lost ∙ first_later (placement_rules p number hd) (body_rules t body (body_width p hd)) tt none₂

  pub row_by_status : {n : ℕ} → (reading t p number hd body).status ≡ n → (reading t p number hd body).row ≡ row_of n p (row_pixels t p hd body)
  unfolding reading
  row_by_status e = ap (λ (s : ℕ). row_of s p (row_pixels t p hd body)) e

-- an offset that no test refuses lies within the row, or at its end
pub offset_within : (p number : ℕ) (hd : List ℕ) → first (placement_rules p number hd) ≡ 0 → pixel_offset hd ≤ p
offset_within p number hd e =
    ltb-false p (pixel_offset hd) (none_holds (placement_rules p number hd) tt e).1.0

-- what the status 0 says
pub record NoFault (t p number : ℕ) (hd b : List ℕ) : Type 0 where
  pub frame : first (lost_rules hd b) ≡ 0
  pub fields : first (placement_rules p number hd) ≡ 0
  pub offset : pixel_offset hd ≤ p
  pub body : first (body_rules t b (body_width p hd)) ≡ 0

pub no_fault : (t p number : ℕ) (hd body : List ℕ) → (reading t p number hd body).status ≡ 0 → NoFault t p number hd body
unfolding reading
no_fault t p number hd body h =
    let a = both_none (lost_rules hd body) (kept_rules t p number hd body) tt h in
    let b = both_none (placement_rules p number hd) (body_rules t body (body_width p hd)) tt a.1 in
    record { frame = a.0; fields = b.0; offset = offset_within p number hd b.0; body = b.1 }

-- A scanline uses no more than the bytes that are left, and none where it is lost. Its row has the length that is asked for.
cond_within : (s : Bool) (n m : ℕ) → (s ≡ false → n ≤ m) → cond s 0 n ≤ m
cond_within true n m h = omega arith
cond_within false n m h = h refl

row_of-length : (n p : ℕ) (xs : List ℕ) → (n ≡ 0 → length xs ≡ p) → length (row_of n p xs) ≡ p
row_of-length n p xs h = go (eqb n 0) refl
  where
    go : (s : Bool) → eqb n 0 ≡ s → length (cond s xs (replicate p 0)) ≡ p
    go true e = h (eqb-true n 0 e)
    go false e = length-replicate p 0

-- with a header: the zeros before the offset and the body's pixels make up the row
good_length : (t p number : ℕ) (hd body : List ℕ) → NoFault t p number hd body → length (row_pixels t p hd body) ≡ p
good_length t p number hd body n =
    let z : length (zeros (pixel_offset hd)) ≡ pixel_offset hd = length-replicate (pixel_offset hd) 0 in
    omega (
      arith,
      z,
      length-append (zeros (pixel_offset hd)) (body_pixels t body (body_width p hd)),
      (lawful t).full body (body_width p hd) n.body,
      n.offset,
    )

module _ (scn t p : ℕ) (rest : List ℕ) where
  pub used_within : (step_of scn t p rest).used.0 ≤ length rest
  used_within = go (eqb scn 1)
    where
      go : (s : Bool) → (cond s (headed_step rest) (open_step t p rest)).used.0 ≤ length rest
      go true = cond_within (is_lost rest) (4 + (bytes_of_words (following (head_of rest))).0) (length rest) (λ e. (kept rest e).within)
      go false = cond_within (body_extent t rest p).lost (body_extent t rest p).used.0 (length rest) ((lawful t).within rest p)

  pub lost_used : (step_of scn t p rest).lost ≡ true → (step_of scn t p rest).used.0 ≡ 0
  lost_used = go (eqb scn 1)
    where
      go : (s : Bool) → (cond s (headed_step rest) (open_step t p rest)).lost ≡ true → (cond s (headed_step rest) (open_step t p rest)).used.0 ≡ 0
      go true e = rw e
      go false e = rw e

  -- a good scanline is not lost
  pub good_not-lost : (number : ℕ) → (reading_of scn t p number rest).status ≡ 0 → (step_of scn t p rest).lost ≡ false
  good_not-lost number = go (eqb scn 1)
    where
      go : (s : Bool) → (cond s (headed_reading t p number rest) (open_reading t p rest)).status ≡ 0
          → (cond s (headed_step rest) (open_step t p rest)).lost ≡ false
      go true e = is_not-lost rest (no_fault t p number (head_of rest) (body_of rest) e).frame
      go false e = (lawful t).good_kept rest p e

  pub length-row : (number : ℕ) → length (reading_of scn t p number rest).row ≡ p
  length-row number = go (eqb scn 1)
    where
      go : (s : Bool) → length (cond s (headed_reading t p number rest) (open_reading t p rest)).row ≡ p
      go true =
          ap length (row_by_status t p number (head_of rest) (body_of rest) refl)
          ∙ row_of-length (reading t p number (head_of rest) (body_of rest)).status p (row_pixels t p (head_of rest) (body_of rest))
          (λ e. good_length t p number (head_of rest) (body_of rest) (no_fault t p number (head_of rest) (body_of rest) e))
      go false =
          row_of-length (body_extent t rest p).status p (body_pixels t (take (body_extent t rest p).used.0 rest) p)
          ((lawful t).taken_full rest p)
