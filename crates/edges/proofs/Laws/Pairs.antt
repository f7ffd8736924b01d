-- The pairs are computed by the checker.
use Rattle.std.specs.Prelude.{◌≡◌, refl, ◌↔◌, true, List, [], ◌∷◌, ℕ, length, eqb}
use Rattle.std.proofs.Common.{arith, eqb-true, eq-eqb}
use Rattle.units.specs.LittleEndian.{u16_at, u32_at}
use Rattle.units.specs.Scan.{scan}
use Rattle.units.proofs.Laws.Rules.{both_true}
use Rattle.units.specs.Words.{words, words_to_bytes}
use Rattle.codec.specs.RunPixels.{run_pixels, run_total, runs_from}
use Rattle.codec.specs.Table.{codec_of, is_data_type}
use Rattle.header.specs.Rejections.{rejection_to22, slot_occurs, shares_slot}
use Rattle.numbering.specs.Numbering.{wanted_number}
use Rattle.layout.specs.Scanline.{head_of, body_of, reading, is_lost}
use Rattle.layout.specs.Chain.{sheet_of, start, reached, reading_at, statuses, rows, good_count}
use Rattle.layout.specs.Reading.{raster_rejection, raster_reading, pixels_after, marks_after}
use Rattle.isolation.specs.Statement.{ChangedInBodies}
use Rattle.isolation.specs.Covered.{blanked}
use Rattle.isolation.proofs.Laws.Covered.{covered}
use Rattle.edges.specs.Cases.{blank}
use Rattle.edges.specs.Pairs.{same_bytes, is_covered, computed_pair, held, three, whole, of_three, of_partway, alike, pairs, AllPairs}

same_bytes_lem : (a b : List ℕ) → same_bytes a b ≡ true → a ≡ b
unfolding same_bytes
same_bytes_lem [] [] h = refl
same_bytes_lem [] (y ∷ b) h = absurd (let z : ◌≡◌ {A = ℕ} 0 1 = cc in omega arith)
same_bytes_lem (x ∷ a) [] h = absurd (let z : ◌≡◌ {A = ℕ} 0 1 = cc in omega arith)
same_bytes_lem (x ∷ a) (y ∷ b) h =
    let t = both_true (eqb x y) (same_bytes a b) h in
    let e : x ≡ y = eqb-true x y t.0 in
    let r : a ≡ b = same_bytes_lem a b t.1 in
    cc

bytes_same : (a : List ℕ) → same_bytes a a ≡ true
unfolding same_bytes
bytes_same [] = refl
bytes_same (x ∷ a) = rw (eq-eqb x x refl) (bytes_same a)

covered_is : (f g : List ℕ) → (is_covered f g ≡ true) ↔ ChangedInBodies f g
unfolding is_covered
covered_is f g =
    let n = (sheet_of f).nol in (
      (λ h.
          let t = both_true (eqb (length g) (length f)) (same_bytes (blanked (sheet_of f) n g) (blanked (sheet_of f) n f)) h in
          ((covered f).exactly g).1 (eqb-true (length g) (length f) t.0, same_bytes_lem (blanked (sheet_of f) n g) (blanked (sheet_of f) n f) t.1)),
      (λ c.
          let t = ((covered f).exactly g).0 c in
          rw (eq-eqb (length g) (length f) t.0, t.1) (bytes_same (blanked (sheet_of f) n f))),
    )

pub all_pairs : AllPairs
unfolding pairs blank computed_pair whole of_three of_partway alike three held same_bytes is_covered blanked u16_at u32_at scan words words_to_bytes rejection_to22 is_data_type codec_of slot_occurs shares_slot run_pixels run_total runs_from head_of body_of reading is_lost wanted_number start reached reading_at statuses rows good_count raster_rejection raster_reading pixels_after marks_after
all_pairs = record { hold = refl; means = covered_is }
