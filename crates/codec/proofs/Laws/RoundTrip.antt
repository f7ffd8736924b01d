-- "Writing a sheet" and "Reading a sheet": a row written as a scanline's body is read back as it was, for each data type.
use Rattle.std.specs.Prelude.{ℕ, suc, ◌+◌, ◌%◌, ◌≤◌, ◌<◌, ◌≡◌, refl, Bool, true, false, cond, ◌&&◌, List, [], ◌∷◌, ◌++◌, length, take, eqb}
use Rattle.std.proofs.Common.{◌∙◌, ap, ap₂, arith, le-ltb, eq-eqb, eqb-true, length-append, take_at}
use Rattle.std.proofs.lemmas.Bool.{eqb-false}
use Rattle.std.proofs.Math.Seq.{take-append_seam, take-length}
use Rattle.units.specs.Counts.{word_bytes}
use Rattle.units.specs.LittleEndian.{low_bytes}
use Rattle.units.specs.Rules.{first}
use Rattle.units.specs.Words.{words, words_to_bytes, word_count}
use Rattle.units.proofs.Laws.Stores.{length-bytes}
use Rattle.units.proofs.Laws.Words.{words_back}
use Rattle.packing.specs.Packing.{packed_count, packed_words}
use Rattle.packing.proofs.Laws.Numbers.{packed_below, length_packed}
use Rattle.packing.proofs.Laws.RoundTrip.{row_back, spare_unset}
use Rattle.codec.specs.Codec.{Codec, taken}
use Rattle.codec.specs.PackedPixels.{spare_set, packed_rules, packed_extent, packed_body, packed_codec}
use Rattle.codec.specs.BytePixels.{byte_rules, byte_pixels, byte_extent, byte_body, byte_codec}
use Rattle.codec.specs.WordPixels.{word_rules, word_extent, word_body, word_codec}
use Rattle.codec.specs.RunPixels.{run_words, run_body, run_codec}
use Rattle.codec.specs.PairPixels.{pair_total, pair_rules, pair_words, pair_body, pair_codec}
use Rattle.codec.specs.Table.{codec_of, is_data_type}
use Rattle.codec.proofs.Laws.RunReading.{status_good}
use Rattle.units.proofs.Laws.Below.{AllBelow, all_append, bytes_below}
use Rattle.codec.proofs.Laws.RoundTripRuns.{runs_pixels, runs_total, runs_odd, runs_below, runs_extent}
use Rattle.codec.proofs.Laws.RoundTripPairs.{pairs-pixels, pairs_total, pairs_even, pairs_below, pairs_extent}
use Rattle.codec.proofs.Laws.Table.{known}

-- a row written as a body by a codec is read back by it
pub record ReadBack (c : Codec) (row : List ℕ) : Type 0 where
  -- with a header: bytes that are whole words, the status 0, and the row
  pub headed-bytes : AllBelow 256 (c.body 1 row)
  pub headed-whole : length (c.body 1 row) % 2 ≡ 0
  pub headed_status : first (c.rules (c.body 1 row) (length row)) ≡ 0
  pub headed-pixels : c.pixels (c.body 1 row) (length row) ≡ row
  -- without, whatever follows: bytes, all of them are taken and no more, and what is taken gives the row
  pub open_bytes : AllBelow 256 (c.body 0 row)
  pub open_extent : (rest : List ℕ) → c.extent (c.body 0 row ++ rest) (length row) ≡ taken (length (c.body 0 row))
  pub open_pixels : (rest : List ℕ) → c.pixels (take (length (c.body 0 row)) (c.body 0 row ++ rest)) (length row) ≡ row

-- type 2: with a header a spare byte follows an odd number of pixels
low-bytes : (row : List ℕ) → AllBelow 256 row → low_bytes row ≡ row
low-bytes [] b = refl
low-bytes (x ∷ row) b =
    let l : x < 256 = b.0 in
    let e : x % 256 ≡ x = omega arith in
    ap₂ (λ (y : ℕ) (r : List ℕ). y ∷ r) e (low-bytes row b.1)

-- the codec of bytes for a row whose body is known
abbrev spared : List ℕ → Bool → Codec
spared row odd =
    record {
      data_type = 2;
      rules = byte_rules;
      pixels = byte_pixels;
      extent = byte_extent;
      body = λ scn r. cond (eqb scn 1 && odd) (row ++ (0 ∷ [])) row;
      highest = 255;
    }

bytes_by_spare : (row : List ℕ) → AllBelow 256 row → (odd : Bool) → eqb (length row % 2) 1 ≡ odd → ReadBack (spared row odd) row
bytes_by_spare row b odd e = record {
  headed-bytes = spare_bytes odd;
  headed-whole = even odd e;
  headed_status = simp (eq-eqb (length (cond odd (row ++ (0 ∷ [])) row)) (length row + length row % 2) (count odd e));
  headed-pixels = front odd;
  open_bytes = b;
  open_extent = λ rest. rw (le-ltb (length (row ++ rest)) (length row) (omega (arith, length-append row rest)));
  open_pixels = λ rest. rw (take-append_seam row rest) (take-length row);
}
  where
    spare_bytes : (odd : Bool) → AllBelow 256 (cond odd (row ++ (0 ∷ [])) row)
    spare_bytes true = all_append 256 row (0 ∷ []) b (omega arith, tt)
    spare_bytes false = b

    count : (odd : Bool) → eqb (length row % 2) 1 ≡ odd → length (cond odd (row ++ (0 ∷ [])) row) ≡ length row + length row % 2
    count true e = omega (arith, length-append row (0 ∷ []), eqb-true (length row % 2) 1 e)
    count false e = omega (arith, eqb-false (length row % 2) 1 e)

    even : (odd : Bool) → eqb (length row % 2) 1 ≡ odd → length (cond odd (row ++ (0 ∷ [])) row) % 2 ≡ 0
    even odd e = omega (arith, count odd e)

    front : (odd : Bool) → take (length row) (cond odd (row ++ (0 ∷ [])) row) ≡ row
    front true = take-append_seam row (0 ∷ [])
    front false = take-length row

pub bytes-read_back : (row : List ℕ) → AllBelow 256 row → ReadBack byte_codec row
unfolding byte_body
bytes-read_back row b =
    let r = bytes_by_spare row b (eqb (length row % 2) 1) refl in
    let l = low-bytes row b in
    record {
      headed-bytes = rw l r.headed-bytes;
      headed-whole = rw l r.headed-whole;
      headed_status = rw l r.headed_status;
      headed-pixels = rw l r.headed-pixels;
      open_bytes = rw l r.open_bytes;
      open_extent = λ rest. rw l (r.open_extent rest);
      open_pixels = λ rest. rw l (r.open_pixels rest);
    }

-- bytes of words are whole words
even_bytes : (ws : List ℕ) → length (words_to_bytes ws) % 2 ≡ 0
even_bytes ws = omega (arith, length-bytes ws)

word_count_lem : (ws : List ℕ) → (word_count (words_to_bytes ws)).0 ≡ length ws
word_count_lem ws = omega (arith, length-bytes ws)

-- types 1, 3, 9 and 10 have one body, with a header and without
of_words : (c : Codec) (ws row : List ℕ) → ((scn : ℕ) → c.body scn row ≡ words_to_bytes ws)
    → AllBelow 65536 ws
    → first (c.rules (words_to_bytes ws) (length row)) ≡ 0
    → c.pixels (words_to_bytes ws) (length row) ≡ row
    → ((rest : List ℕ) → c.extent (words_to_bytes ws ++ rest) (length row) ≡ taken (length (words_to_bytes ws)))
    → ReadBack c row
of_words c ws row body b s p x = record {
  headed-bytes = rw (body 1) (bytes_below ws b);
  headed-whole = rw (body 1) (even_bytes ws);
  headed_status = rw (body 1) s;
  headed-pixels = rw (body 1) p;
  open_bytes = rw (body 0) (bytes_below ws b);
  open_extent = rw (body 0) x;
  open_pixels = rw (body 0) (λ rest. rw (take-append_seam (words_to_bytes ws) rest) p);
}

-- type 1
packed_count_lem : (row : List ℕ) → (word_count (packed_body row)).0 ≡ packed_count (length row)
packed_count_lem row =
    let n = packed_count (length row) in
    word_count_lem (packed_words n row) ∙ length_packed n row

packed_unset : (row : List ℕ) → AllBelow 2 row → spare_set (packed_body row) (length row) ≡ false
packed_unset row b = rw (words_back (packed_words (packed_count (length row)) row)) (spare_unset row b)

packed_status : (row : List ℕ) → AllBelow 2 row → first (packed_rules (packed_body row) (length row)) ≡ 0
packed_status row b =
    simp (eq-eqb (word_count (packed_body row)).0 (packed_count (length row)) (packed_count_lem row), packed_unset row b)

packed_extent_lem : (row : List ℕ) → AllBelow 2 row → (rest : List ℕ)
    → packed_extent (packed_body row ++ rest) (length row) ≡ taken (length (packed_body row))
packed_extent_lem row b rest =
    let body = packed_body row in
    let n = packed_count (length row) in
    let l : length body ≡ word_bytes n = length-bytes (packed_words n row) ∙ ap word_bytes (length_packed n row) in
    let f : n ≤ (word_count (body ++ rest)).0 = omega (arith, length-append body rest, l) in
    rw (le-ltb (word_count (body ++ rest)).0 n f, take_at body rest (word_bytes n) l, packed_unset row b, l)

pub packed_read_back : (row : List ℕ) → AllBelow 2 row → ReadBack packed_codec row
packed_read_back row b =
    let n = packed_count (length row) in
    of_words packed_codec (packed_words n row) row (λ scn. refl) (packed_below n row)
    (packed_status row b) (rw (words_back (packed_words n row)) (row_back row b)) (packed_extent_lem row b)

-- type 3
word_status : (row : List ℕ) → first (word_rules (word_body row) (length row)) ≡ 0
word_status row = simp (eq-eqb (word_count (words_to_bytes row)).0 (length row) (word_count_lem row))

words_fit : (ws rest : List ℕ) → length ws ≤ (word_count (words_to_bytes ws ++ rest)).0
words_fit ws rest = omega (arith, length-append (words_to_bytes ws) rest, length-bytes ws)

word_extent_lem : (row rest : List ℕ) → word_extent (word_body row ++ rest) (length row) ≡ taken (length (word_body row))
word_extent_lem row rest =
    rw (le-ltb (word_count (words_to_bytes row ++ rest)).0 (length row) (words_fit row rest), length-bytes row)

pub words-read_back : (row : List ℕ) → AllBelow 65536 row → ReadBack word_codec row
words-read_back row b =
    of_words word_codec row row (λ scn. refl) b (word_status row) (rw (words_back row) (take-length row)) (word_extent_lem row)

-- type 9
pub runs_read_back : (row : List ℕ) → AllBelow 2 row → ReadBack run_codec row
runs_read_back row b =
    of_words run_codec (run_words row) row (λ scn. refl) (runs_below row)
    (status_good (run_body row) (length row) (λ q. omega (arith, word_count_lem (run_words row), runs_odd row b))
    (rw (words_back (run_words row)) (runs_total row b)))
    (rw (words_back (run_words row)) (runs_pixels row b))
    (runs_extent row b)

-- type 10
pair_status : (row : List ℕ) → first (pair_rules (pair_body row) (length row)) ≡ 0
pair_status row =
    let e : (word_count (pair_body row)).0 % 2 ≡ 0 = omega (arith, word_count_lem (pair_words row), pairs_even row) in
    let t : pair_total (words (pair_body row)) ≡ length row = rw (words_back (pair_words row)) (pairs_total row) in
    let g : pair_total (words (pair_body row)) ≤ length row = omega arith in
    let h : length row ≤ pair_total (words (pair_body row)) = omega arith in
    simp (eq-eqb ((word_count (pair_body row)).0 % 2) 0 e, le-ltb _ _ g, le-ltb _ _ h)

pub pairs-read_back : (row : List ℕ) → AllBelow 65536 row → 0 < length row → ReadBack pair_codec row
pairs-read_back row b h =
    of_words pair_codec (pair_words row) row (λ scn. refl) (pairs_below row b)
    (pair_status row) (rw (words_back (pair_words row)) (pairs-pixels row)) (pairs_extent row h)

-- any data type of the table, if no pixel is above its highest
abbrev ReadsBackBy : List ℕ → Codec → Type 0
ReadsBackBy row c = 0 < length row → AllBelow (suc c.highest) row → ReadBack c row

pub read_back : (t : ℕ) (row : List ℕ) → is_data_type t ≡ true → ReadsBackBy row (codec_of t)
read_back t row h =
    known (ReadsBackBy row) t h
    ((λ l b. packed_read_back row b), ((λ l b. bytes-read_back row b), ((λ l b. words-read_back row b), ((λ l b. runs_read_back row b), ((λ l b. pairs-read_back row b l), tt)))))
