-- What the reading of a scanline needs of a codec, and that every codec has it.
use Rattle.std.specs.Prelude.{ℕ, ◌+◌, ◌-◌, ◌%◌, ◌≤◌, ◌≡◌, refl, Bool, true, false, not, cond, ◌&&◌, List, [], ◌∷◌, length, take, eqb, ltb}
use Rattle.std.proofs.Common.{sym, ◌∙◌, ap, arith, length-take-le, ltb-false, eqb-true}
use Rattle.std.proofs.lemmas.Bool.{false≢true, not-false}
use Rattle.units.specs.Counts.{word_bytes}
use Rattle.units.specs.Rules.{first}
use Rattle.units.specs.Words.{words, word_count}
use Rattle.units.proofs.Laws.Rules.{none_holds}
use Rattle.units.proofs.Laws.Words.{length-words, words-taken}
use Rattle.packing.specs.Packing.{word_bits, packed_count}
use Rattle.packing.proofs.Laws.Bits.{length-word_bits}
use Rattle.codec.specs.Extent.{Extent}
use Rattle.codec.specs.Codec.{Codec, kept, taken, fault}
use Rattle.codec.specs.PackedPixels.{packed_rules, spare_set, packed_codec}
use Rattle.codec.specs.BytePixels.{byte_rules, byte_codec}
use Rattle.codec.specs.WordPixels.{word_rules, word_codec}
use Rattle.codec.specs.RunPixels.{runs_from, run_extent, run_codec}
use Rattle.codec.specs.PairPixels.{pairs_from, pair_extent, pair_codec}
use Rattle.codec.specs.Table.{no_codec, codec_of}
use Rattle.codec.proofs.Laws.Table.{every}
use Rattle.codec.proofs.Laws.RunReading.{length-run_pixels, status_total, extent_within, extent_total}
use Rattle.codec.proofs.Laws.PairReading.{length-pair_pixels, pairs_fit, pairs-taken}
use Rattle.codec.proofs.Laws.Settled.{Settled, packed_settled, bytes_settled, words_settled, runs_settled, pairs_settled}

pub record Lawful (c : Codec) : Type 0 where
  -- a body with the status 0 has as many pixels as the row
  pub full : (b : List ℕ) (p : ℕ) → first (c.rules b p) ≡ 0 → length (c.pixels b p) ≡ p
  -- without a header: what is not lost is there, and what is good gives a whole row
  pub within : (r : List ℕ) (p : ℕ) → (c.extent r p).lost ≡ false → (c.extent r p).used.0 ≤ length r
  pub taken_full : (r : List ℕ) (p : ℕ) → (c.extent r p).status ≡ 0 → length (c.pixels (take (c.extent r p).used.0 r) p) ≡ p
  -- what is good is not lost
  pub good_kept : (r : List ℕ) (p : ℕ) → (c.extent r p).status ≡ 0 → (c.extent r p).lost ≡ false
  -- and what does not run past the file is settled, whatever follows
  pub settled : (r : List ℕ) (p : ℕ) → (c.extent r p ≡ fault 1 → ⊥) → Settled (λ s. c.extent s p) r

-- one test for a fault: what is good, or not lost, has none
one_test : (over : Bool) (s n : ℕ) → (cond over (fault 1) (kept s n)).status ≡ 0 → over ≡ false
one_test true s n h = absurd (omega arith)
one_test false s n h = refl

kept_test : (over : Bool) (s n : ℕ) → (cond over (fault 1) (kept s n)).lost ≡ false → over ≡ false
kept_test true s n h = absurd (false≢true (sym h))
kept_test false s n h = refl

-- the words of a row hold its pixels
pixels_full : (b : List ℕ) (p : ℕ) → (word_count b).0 ≡ packed_count p → length (take p (word_bits (words b))) ≡ p
pixels_full b p n = length-take-le p (word_bits (words b)) (omega (arith, length-word_bits (words b), length-words b))

packed : Lawful packed_codec
packed =
    record {
      full =
          λ b p h.
          pixels_full b p
          (eqb-true (word_count b).0 (packed_count p) (not-false (eqb (word_count b).0 (packed_count p)) (none_holds (packed_rules b p) tt h).0));
      within =
          λ r p h.
          let m = packed_count p in
          let e : ltb (word_count r).0 m ≡ false = kept_test (ltb (word_count r).0 m) (status r p) (word_bytes m) h in
          let n : m ≤ (word_count r).0 = ltb-false (word_count r).0 m e in
          rw e (omega arith);
      taken_full =
          λ r p h.
          let m = packed_count p in
          let e : ltb (word_count r).0 m ≡ false = one_test (ltb (word_count r).0 m) (status r p) (word_bytes m) h in
          let n : m ≤ (word_count r).0 = ltb-false (word_count r).0 m e in
          rw e (pixels_full (take (word_bytes m) r) p (omega (arith, length-take-le (word_bytes m) r (omega arith))));
      good_kept = λ r p h. rw (one_test (ltb (word_count r).0 (packed_count p)) (status r p) (word_bytes (packed_count p)) h);
      settled = packed_settled;
    }
  where
    status : List ℕ → ℕ → ℕ
    status r p = cond (spare_set (take (word_bytes (packed_count p)) r) p) 10 0

bytes : Lawful byte_codec
bytes =
    record {
      full =
          λ b p h.
          let n : length b ≡ p + p % 2 =
          eqb-true (length b) (p + p % 2) (not-false (eqb (length b) (p + p % 2)) (none_holds (byte_rules b p) tt h).0) in
          length-take-le p b (omega arith);
      within =
          λ r p h.
          let e : ltb (length r) p ≡ false = kept_test (ltb (length r) p) 0 p h in
          rw e (ltb-false (length r) p e);
      taken_full =
          λ r p h.
          let e : ltb (length r) p ≡ false = one_test (ltb (length r) p) 0 p h in
          let n : p ≤ length r = ltb-false (length r) p e in
          rw e (length-take-le p (take p r) (omega (arith, length-take-le p r n)));
      good_kept = λ r p h. rw (one_test (ltb (length r) p) 0 p h);
      settled = bytes_settled;
    }

word_pixels_lem : Lawful word_codec
word_pixels_lem =
    record {
      full =
          λ b p h.
          let n : (word_count b).0 ≡ p =
          eqb-true (word_count b).0 p (not-false (eqb (word_count b).0 p) (none_holds (word_rules b p) tt h).0) in
          length-take-le p (words b) (omega (arith, length-words b));
      within =
          λ r p h.
          let e : ltb (word_count r).0 p ≡ false = kept_test (ltb (word_count r).0 p) 0 (word_bytes p) h in
          let n : p ≤ (word_count r).0 = ltb-false (word_count r).0 p e in
          rw e (omega arith);
      taken_full =
          λ r p h.
          let e : ltb (word_count r).0 p ≡ false = one_test (ltb (word_count r).0 p) 0 (word_bytes p) h in
          let n : p ≤ (word_count r).0 = ltb-false (word_count r).0 p e in
          rw e (ap length (words-taken r p) ∙ length-take-le p (words r) (omega (arith, length-words r)));
      good_kept = λ r p h. rw (one_test (ltb (word_count r).0 p) 0 (word_bytes p) h);
      settled = words_settled;
    }

-- An extent that is lost exactly where it has a fault: runs and pairs, by the tests in their order.
abbrev FaultLoses : Extent → Type 0
FaultLoses e = e.lost ≡ not (eqb e.status 0)

tests_lose : (a b : Bool) (n : ℕ) (rest : Extent) → FaultLoses rest → FaultLoses (cond a (fault 7) (cond b (taken n) rest))
tests_lose true b n rest ih = refl
tests_lose false true n rest ih = refl
tests_lose false false n rest ih = ih

kept_good : (e : Extent) → FaultLoses e → e.lost ≡ false → e.status ≡ 0
kept_good e f h = eqb-true e.status 0 (not-false (eqb e.status 0) (sym f ∙ h))

good_keeps : (e : Extent) → FaultLoses e → e.status ≡ 0 → e.lost ≡ false
good_keeps e f h = f ∙ rw h

runs_lose : (v left : ℕ) (ws : List ℕ) (used : ℕ) → FaultLoses (runs_from v left ws used)
unfolding runs_from
runs_lose v left [] used = refl
runs_lose v left (n ∷ ws) used =
    tests_lose (ltb left n) (eqb v 0 && eqb left n) (used + word_bytes 1) (runs_from (1 - v) (left - n) ws (used + word_bytes 1))
    (runs_lose (1 - v) (left - n) ws (used + word_bytes 1))

runs : Lawful run_codec
runs =
    record {
      full = λ b p h. length-run_pixels 0 (words b) ∙ status_total b p h;
      within = λ r p h. extent_within r p (run_extent r p) refl (kept_good (run_extent r p) (runs_lose 0 p (words r) 0) h);
      taken_full =
          λ r p h. length-run_pixels 0 (words (take (run_extent r p).used.0 r)) ∙ extent_total r p (run_extent r p) refl h;
      good_kept = λ r p h. good_keeps (run_extent r p) (runs_lose 0 p (words r) 0) h;
      settled = runs_settled;
    }

pairs_lose : (left : ℕ) (ws : List ℕ) (used : ℕ) → FaultLoses (pairs_from left ws used)
unfolding pairs_from
pairs_lose left [] used = refl
pairs_lose left (v ∷ []) used = refl
pairs_lose left (v ∷ (n ∷ ws)) used =
    tests_lose (ltb left n) (eqb left n) (used + word_bytes 2) (pairs_from (left - n) ws (used + word_bytes 2))
    (pairs_lose (left - n) ws (used + word_bytes 2))

pairs : Lawful pair_codec
pairs =
    record {
      full = λ b p h. length-pair_pixels (words b) ∙ pairs_fit b p h;
      within = λ r p h. (pairs-taken r p (pair_extent r p) refl (kept_good (pair_extent r p) (pairs_lose p (words r) 0) h)).0;
      taken_full =
          λ r p h.
          length-pair_pixels (words (take (pair_extent r p).used.0 r)) ∙ (pairs-taken r p (pair_extent r p) refl h).1;
      good_kept = λ r p h. good_keeps (pair_extent r p) (pairs_lose p (words r) 0) h;
      settled = pairs_settled;
    }

none : Lawful no_codec
none =
    record {
      full = λ b p h. absurd (omega arith);
      within = λ r p h. absurd (false≢true (sym h));
      taken_full = λ r p h. absurd (omega arith);
      good_kept = λ r p h. absurd (omega arith);
      settled = λ r p h. record { size = 0; alike = λ rest. refl; all_taken = λ l. absurd (false≢true (sym l)) };
    }

pub lawful : (t : ℕ) → Lawful (codec_of t)
lawful t = every Lawful t (packed, (bytes, (word_pixels_lem, (runs, (pairs, tt))))) none
