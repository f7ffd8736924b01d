-- A regular scanline is good: its status is 0, and its row has the bytes of its body.
use Rattle.std.specs.Prelude.{ℕ, ◌+◌, ◌-◌, ◌%◌, ◌≤◌, ◌≡◌, Bool, ◌&&◌, List, drop, eqb, leb}
use Rattle.std.proofs.Math.Path.{refl, sym, ap}
use Rattle.std.proofs.Common.{◌∙◌}
use Rattle.std.proofs.Math.Bool.{true, false, cond}
use native.Mathlib.Omega.{arith}
use Rattle.std.proofs.Math.ListN.{length, take}
use Rattle.std.proofs.Math.Seq.{take-take}
use borrow.Author.Tests.{eq-eqb, le-ltb, eqb-true, leb-true}
use Rattle.units.specs.Counts.{word_bytes}
use Rattle.units.specs.LittleEndian.{byte_at, u16_at}
use Rattle.units.specs.Rules.{first}
use Rattle.units.proofs.Laws.Rules.{both_true}
use Rattle.codec.specs.Table.{codec_of, body_rules}
use Rattle.layout.specs.Scanline.{Reading, Step, head_of, body_of, pixel_offset, body_width, placement_rules, headed_step, open_step, step_of, headed_reading, open_reading, reading_of}
use Rattle.layout.proofs.Laws.Line.{lost_by, lost-not, not-lost, is_not-lost, head_word, status_body}
use Rattle.codec.specs.Extent.{taken}
use Rattle.scan_scanline.specs.Answer.{IsScan, body_start, first_column}
use Rattle.scan_scanline.specs.Regular.{regular_size, is_regular_head, is_regular}
use Rattle.scan_scanline.proofs.Laws.Body.{good_line}

-- what the tests of a regular header say
record HeadIs (number size : ℕ) (rest : List ℕ) : Type 0 where
  identifier : byte_at rest 1 ≡ 0x59
  words : 4 + word_bytes (u16_at rest 2) ≡ size
  number_is : u16_at rest 4 ≡ number
  offset : u16_at rest 6 ≡ 0

head_is : (number size : ℕ) (rest : List ℕ) → is_regular_head number size rest ≡ true → HeadIs number size rest
head_is number size rest head =
    let t = both_true (eqb (byte_at rest 1) 0x59) _ head in
    let s = both_true (eqb (4 + word_bytes (u16_at rest 2)) size) _ t.1 in
    let o = both_true (eqb (u16_at rest 4) number) (eqb (u16_at rest 6) 0) s.1 in
    record { identifier = eqb-true _ _ t.0; words = eqb-true _ _ s.0; number_is = eqb-true _ _ o.0; offset = eqb-true _ _ o.1 }

-- with a header
module _ (p number : ℕ) (rest : List ℕ) (fits : 8 + p + p % 2 ≤ length rest) (head : HeadIs number (8 + p + p % 2) rest) where
  headed_offset : pixel_offset (head_of rest) ≡ 0
  headed_offset = head_word rest 6 (omega arith) ∙ head.offset

  headed_good : IsScan (headed_step rest) (headed_reading 2 p number rest) (taken (8 + p + p % 2))
  unfolding codec_of
  headed_good =
      let w : 4 + word_bytes (u16_at rest 2) ≡ 8 + p + p % 2 = head.words in
      let none : lost_by rest ≡ 0 = lost-not rest (omega arith) head.identifier (omega arith) (omega arith) in
      let placed : first (placement_rules p number (head_of rest)) ≡ 0 =
      simp (eq-eqb _ _ (head_word rest 4 (omega arith) ∙ head.number_is), le-ltb p (pixel_offset (head_of rest)) (omega (arith, headed_offset))) in
      let size : length (body_of rest) ≡ p + p % 2 = omega (arith, (not-lost rest none).size, head_word rest 2 (omega arith)) in
      let width : body_width p (head_of rest) ≡ p = omega (arith, headed_offset) in
      let body : first (body_rules 2 (body_of rest) (body_width p (head_of rest))) ≡ 0 = rw width (simp (eq-eqb _ _ size)) in
      record {
        status = sym (status_body 2 p number (head_of rest) (body_of rest) none placed ∙ body);
        lost = sym (is_not-lost rest none);
        used = rw (is_not-lost rest none) (omega (arith, head_word rest 2 (omega arith)));
      }

-- without
open_good : (p : ℕ) (rest : List ℕ) → p ≤ length rest → IsScan (open_step 2 p rest) (open_reading 2 p rest) (taken p)
unfolding codec_of
open_good p rest fits = let t = le-ltb (length rest) p fits in record { status = rw t; lost = rw t; used = rw t }

-- by the tests: it lies in the file, starts in the first column and is good
record Scanned (size col : ℕ) (s : Step) (x : Reading) (rest : List ℕ) : Type 0 where
  fits : size ≤ length rest
  column : col ≡ 0
  scan : IsScan s x (taken size)

-- what holds of a regular scanline
pub record Regular (scn p number : ℕ) (rest : List ℕ) : Type 0 where
  pub within : regular_size scn p ≤ length rest
  pub body : body_start scn + p ≤ regular_size scn p
  pub scan : IsScan (step_of scn 2 p rest) (reading_of scn 2 p number rest) (taken (regular_size scn p))
  pub row_is : (reading_of scn 2 p number rest).row ≡ take p (drop (body_start scn) rest)

module _ (scn p number : ℕ) (rest : List ℕ) (tests : is_regular scn number (regular_size scn p) rest ≡ true) where
  scanned : Scanned (regular_size scn p) (first_column scn rest) (step_of scn 2 p rest) (reading_of scn 2 p number rest) rest
  unfolding is_regular
  scanned = go (eqb scn 1) tests
    where
      go : (s : Bool)
          → let size = cond s (8 + p + p % 2) p in (leb size (length rest) && cond s (is_regular_head number size rest) true) ≡ true
          → Scanned size (cond s (pixel_offset (head_of rest)) 0) (cond s (headed_step rest) (open_step 2 p rest))
          (cond s (headed_reading 2 p number rest) (open_reading 2 p rest)) rest
      go true e =
          let t = both_true (leb (8 + p + p % 2) (length rest)) (is_regular_head number (8 + p + p % 2) rest) e in
          let fits = leb-true (8 + p + p % 2) (length rest) t.0 in
          let head = head_is number (8 + p + p % 2) rest t.1 in
          record { fits = fits; column = headed_offset p number rest fits head; scan = headed_good p number rest fits head }
      go false e =
          let fits = leb-true p (length rest) (both_true (leb p (length rest)) true e).0 in
          record { fits = fits; column = refl; scan = open_good p rest fits }

  -- the body has p bytes or more
  body_holds : body_start scn + p ≤ regular_size scn p
  body_holds = go (eqb scn 1)
    where
      go : (s : Bool) → cond s 8 0 + p ≤ cond s (8 + p + p % 2) p
      go true = omega arith
      go false = omega arith

  pub regular : Regular scn p number rest
  unfolding codec_of
  regular =
      let none : p - 0 ≡ p = omega arith in
      record {
        within = scanned.fits;
        body = body_holds;
        scan = scanned.scan;
        row_is =
            (good_line scn 2 p number rest scanned.scan refl (sym scanned.column) refl).row_is
            ∙ take-take (p - 0) (regular_size scn p - body_start scn) (drop (body_start scn) rest) (omega (arith, body_holds))
            ∙ ap (λ (n : ℕ). take n (drop (body_start scn) rest)) none;
      }
