-- One scanline whose body is a codec's, whatever follows it: its reading is good, and it uses its own bytes.
use Rattle.std.specs.Prelude.{ℕ, ◌+◌, ◌-◌, ◌%◌, ◌≤◌, ◌≡◌, refl, Bool, true, false, cond, List, ◌++◌, length, take, drop, eqb}
use Rattle.std.proofs.Common.{sym, ◌∙◌, ap₂, append_assoc, arith, length-append, drop_at, eq-eqb, le-ltb, eqb-true}
use Rattle.std.proofs.Math.Path.{ap}
use Rattle.std.proofs.Math.Seq.{take_at}
use Rattle.std.proofs.lemmas.Bool.{eqb-false}
use Rattle.units.specs.Counts.{bytes_of_words}
use Rattle.units.specs.LittleEndian.{byte_at, u16_at}
use Rattle.units.specs.Over.{zeros}
use Rattle.units.specs.Rules.{first}
use Rattle.units.specs.Words.{word_count}
use Rattle.codec.specs.Extent.{Extent}
use Rattle.codec.specs.Codec.{row_of}
use Rattle.codec.specs.Table.{codec_of, body_rules, body_pixels, body_extent, body_bytes}
use Rattle.codec.proofs.Laws.RoundTrip.{ReadBack}
use Rattle.layout.specs.Scanline.{head_of, body_of, following, pixel_offset, body_width, placement_rules, Reading, reading, Step, is_lost, headed_reading, open_reading, headed_step, open_step, step_of, reading_of}
use Rattle.layout.proofs.Laws.Line.{lost_by, lost-not, not-lost, is_not-lost, status_body, row_by_status, head_byte, head_word}

-- a good reading of a row, and as many bytes as were written
pub record Back (s : Step) (x : Reading) (row : List ℕ) (size : ℕ) : Type 0 where
  pub status : x.status ≡ 0
  pub pixels : x.row ≡ row
  pub lost : s.lost ≡ false
  pub used : s.used.0 ≡ size

-- a scanline header before a body: eight bytes, with a right identifier, the words to follow, the line number and the offset 0
pub record Heads (hd : List ℕ) (number : ℕ) (body : List ℕ) : Type 0 where
  pub eight : length hd ≡ 8
  pub identifier : byte_at hd 1 ≡ 0x59
  pub follow : u16_at hd 2 ≡ (word_count body).0 + 2
  pub line-number : u16_at hd 4 ≡ number
  pub offset : u16_at hd 6 ≡ 0

module _ (hd : List ℕ) (number : ℕ) (body rest : List ℕ) (h : Heads hd number body) where
  abbrev whole : List ℕ
  whole = (hd ++ body) ++ rest

  head_is : head_of whole ≡ hd
  unfolding head_of
  head_is = ap (take 8) (append_assoc hd body rest) ∙ take_at hd (body ++ rest) 8 h.eight

  after : drop 8 whole ≡ body ++ rest
  after = ap (drop 8) (append_assoc hd body rest) ∙ drop_at hd (body ++ rest) 8 h.eight

  length_whole : length whole ≡ 8 + (length body + length rest)
  length_whole = omega (arith, length-append (hd ++ body) rest, length-append hd body, h.eight)

  follow_there : u16_at whole 2 ≡ (word_count body).0 + 2
  follow_there = sym (head_word whole 2 (omega arith)) ∙ ap (λ (x : List ℕ). u16_at x 2) head_is ∙ h.follow

  kept : length body % 2 ≡ 0 → lost_by whole ≡ 0
  kept even =
      lost-not whole (omega (arith, length_whole))
      (sym (head_byte whole 1 (omega arith)) ∙ ap (λ (x : List ℕ). byte_at x 1) head_is ∙ h.identifier)
      (omega (arith, follow_there))
      (omega (arith, follow_there, length_whole))

  body_back : length body % 2 ≡ 0 → body_of whole ≡ body
  body_back even =
      let l = not-lost whole (kept even) in
      let n : length body ≡ 4 + (bytes_of_words (following (head_of whole))).0 - 8 = omega (arith, head_word whole 2 (omega arith), follow_there) in
      l.body
      ∙ ap (take (4 + (bytes_of_words (following (head_of whole))).0 - 8)) after
      ∙ take_at body rest (4 + (bytes_of_words (following (head_of whole))).0 - 8) n

  offset_back : pixel_offset (head_of whole) ≡ 0
  offset_back = ap (λ (x : List ℕ). u16_at x 6) head_is ∙ h.offset

  placed : (p : ℕ) → first (placement_rules p number (head_of whole)) ≡ 0
  placed p =
      simp (
        eq-eqb (u16_at (head_of whole) 4) number (ap (λ (x : List ℕ). u16_at x 4) head_is ∙ h.line-number),
        le-ltb p (pixel_offset (head_of whole)) (omega (arith, offset_back)),
      )

pub headed_back : (t number : ℕ) (hd row rest : List ℕ) → Heads hd number (body_bytes t 1 row) → ReadBack (codec_of t) row
    → let all = (hd ++ body_bytes t 1 row) ++ rest in
    Back (headed_step all) (headed_reading t (length row) number all) row (length (hd ++ body_bytes t 1 row))
headed_back t number hd row rest h b =
    let body = body_bytes t 1 row in
    let all = whole hd number body rest h in
    let k = kept hd number body rest h b.headed-whole in
    let e : body_of all ≡ body = body_back hd number body rest h b.headed-whole in
    let o : pixel_offset (head_of all) ≡ 0 = offset_back hd number body rest h in
    let w : body_width (length row) (head_of all) ≡ length row = omega arith in
    let s : (reading t (length row) number (head_of all) (body_of all)).status ≡ 0 =
    status_body t (length row) number (head_of all) (body_of all) k (placed hd number body rest h (length row))
    ∙ ap₂ (λ (x : List ℕ) (n : ℕ). first (body_rules t x n)) e w
    ∙ b.headed_status in
    let l : is_lost all ≡ false = is_not-lost all k in
    record {
      status = s;
      pixels =
          row_by_status t (length row) number (head_of all) (body_of all) s
          ∙ ap (λ (n : ℕ). zeros n ++ body_pixels t (body_of all) (body_width (length row) (head_of all))) o
          ∙ ap₂ (λ (x : List ℕ) (n : ℕ). body_pixels t x n) e w
          ∙ b.headed-pixels;
      lost = l;
      used = rw l (omega (arith, (not-lost all k).size, ap length e, length-append hd body, h.eight));
    }

pub open_back : (t : ℕ) (row rest : List ℕ) → ReadBack (codec_of t) row
    → let all = body_bytes t 0 row ++ rest in
    Back (open_step t (length row) all) (open_reading t (length row) all) row (length (body_bytes t 0 row))
open_back t row rest b =
    let all = body_bytes t 0 row ++ rest in
    let e = b.open_extent rest in
    let s : (body_extent t all (length row)).status ≡ 0 = ap (λ (x : Extent). x.status) e in
    let u : (body_extent t all (length row)).used.0 ≡ length (body_bytes t 0 row) = ap (λ (x : Extent). x.used.0) e in
    let l : (body_extent t all (length row)).lost ≡ false = ap (λ (x : Extent). x.lost) e in
    record {
      status = s;
      pixels =
          ap₂ (λ (x y : ℕ). row_of x (length row) (body_pixels t (take y all) (length row))) s u
          ∙ b.open_pixels rest;
      lost = l;
      used = rw l u;
    }

-- by SCN
abbrev pub line_if : ℕ → ℕ → List ℕ → List ℕ → Bool → List ℕ
line_if t scn hd row x = cond x (hd ++ body_bytes t scn row) (body_bytes t scn row)

pub line_back : (scn t p number : ℕ) (hd row rest : List ℕ) → scn ≤ 1 → length row ≡ p → (scn ≡ 1 → Heads hd number (body_bytes t scn row))
    → ReadBack (codec_of t) row
    → let all = line_if t scn hd row (eqb scn 1) ++ rest in
    Back (step_of scn t p all) (reading_of scn t p number all) row (length (line_if t scn hd row (eqb scn 1)))
line_back scn t p number hd row rest low l h b = go (eqb scn 1) refl
  where
    go : (x : Bool) → eqb scn 1 ≡ x
        → let all = line_if t scn hd row x ++ rest in
        Back (cond x (headed_step all) (open_step t p all)) (cond x (headed_reading t p number all) (open_reading t p all)) row
        (length (line_if t scn hd row x))
    go true e =
        let s : scn ≡ 1 = eqb-true scn 1 e in
        let g : Heads hd number (body_bytes t 1 row) = rw s at (h s) in
        rw (s, ← l) (headed_back t number hd row rest g b)
    go false e =
        let n : scn ≡ 1 → ⊥ = eqb-false scn 1 e in
        let s : scn ≡ 0 = omega arith in
        rw (s, ← l) (open_back t row rest b)
