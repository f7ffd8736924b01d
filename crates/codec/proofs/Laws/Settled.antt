-- Without a header: a scanline that does not run past the file is settled by its own bytes. Whatever follows them, it takes the
-- same and has the same status.
use Rattle.std.specs.Prelude.{ℕ, ◌+◌, ◌-◌, ◌≤◌, ◌≡◌, refl, Bool, true, false, cond, ◌&&◌, List, [], ◌∷◌, ◌++◌, length, take, drop, eqb, ltb}
use Rattle.std.proofs.Common.{sym, ◌∙◌, ap, append_assoc, arith, length-append, take-append-drop, length-take-le, take_at, le-ltb, ltb-false}
use Rattle.std.proofs.lemmas.Bool.{false≢true}
use Rattle.std.proofs.Math.Seq.{take-append_seam, take-append-add}
use Rattle.units.specs.Counts.{word_bytes}
use Rattle.units.specs.Words.{words, word_count}
use Rattle.units.proofs.Laws.Words.{length-words, words_take}
use Rattle.packing.specs.Packing.{packed_count}
use Rattle.codec.specs.Extent.{Extent}
use Rattle.codec.specs.Codec.{kept, taken, fault}
use Rattle.codec.specs.PackedPixels.{spare_set, packed_extent}
use Rattle.codec.specs.BytePixels.{byte_extent}
use Rattle.codec.specs.WordPixels.{word_extent}
use Rattle.codec.specs.RunPixels.{runs_from, run_extent}
use Rattle.codec.specs.PairPixels.{pairs_from, pair_extent}

-- the bytes at the front of r that settle what is taken of it: all that is taken, where the scanline is not lost
pub record Settled (extent : List ℕ → Extent) (r : List ℕ) : Type 0 where
  pub size : ℕ
  pub alike : (rest : List ℕ) → extent (take size r ++ rest) ≡ extent r
  pub all_taken : (extent r).lost ≡ false → (extent r).used.0 ≡ size

-- a fixed number of bytes, which are there or not, and which settle the status
fixed : (extent : List ℕ → Extent) (status : List ℕ → ℕ) (r : List ℕ) (n : ℕ)
    → ((s : List ℕ) → n ≤ length s → extent s ≡ kept (status (take n s)) n) → n ≤ length r → Settled extent r
fixed extent status r n there h =
    let l = length-take-le n r h in
    record {
      size = n;
      alike =
          λ rest.
          there (take n r ++ rest) (omega (arith, length-append (take n r) rest, l))
          ∙ ap (λ (s : List ℕ). kept (status s) n) (take_at (take n r) rest n l)
          ∙ sym (there r h);
      all_taken = λ l. ap (λ (e : Extent). e.used.0) (there r h);
    }

not-over : (over : Bool) (s n : ℕ) → (cond over (fault 1) (kept s n) ≡ fault 1 → ⊥) → over ≡ false
not-over true s n h = absurd (h refl)
not-over false s n h = refl

pub packed_settled : (r : List ℕ) (p : ℕ) → (packed_extent r p ≡ fault 1 → ⊥) → Settled (λ s. packed_extent s p) r
packed_settled r p h =
    let m = packed_count p in
    let status : List ℕ → ℕ = λ (s : List ℕ). cond (spare_set s p) 10 0 in
    fixed (λ s. packed_extent s p) status r (word_bytes m)
    (λ s l. let n : m ≤ (word_count s).0 = omega arith in rw (le-ltb (word_count s).0 m n))
    (omega (arith, ltb-false (word_count r).0 m (not-over (ltb (word_count r).0 m) (status (take (word_bytes m) r)) (word_bytes m) h)))

pub bytes_settled : (r : List ℕ) (p : ℕ) → (byte_extent r p ≡ fault 1 → ⊥) → Settled (λ s. byte_extent s p) r
bytes_settled r p h =
    fixed (λ s. byte_extent s p) (λ s. 0) r p (λ s l. rw (le-ltb (length s) p l))
    (ltb-false (length r) p (not-over (ltb (length r) p) 0 p h))

pub words_settled : (r : List ℕ) (p : ℕ) → (word_extent r p ≡ fault 1 → ⊥) → Settled (λ s. word_extent s p) r
words_settled r p h =
    fixed (λ s. word_extent s p) (λ s. 0) r (word_bytes p)
    (λ s l. let n : p ≤ (word_count s).0 = omega arith in rw (le-ltb (word_count s).0 p n))
    (omega (arith, ltb-false (word_count r).0 p (not-over (ltb (word_count r).0 p) 0 (word_bytes p) h)))

-- Runs and pairs are taken one group of words at a time: the words at the front of ws that settle what is taken, where `before`
-- bytes are taken already.
record Front (extent : List ℕ → Extent) (before : ℕ) (ws : List ℕ) : Type 0 where
  count : ℕ
  there : count ≤ length ws
  alike : (rest : List ℕ) → extent (take count ws ++ rest) ≡ extent ws
  all_taken : (extent ws).lost ≡ false → (extent ws).used.0 ≡ before + word_bytes count

-- one group settles it, where what comes after the group does not matter
ends : (extent : List ℕ → Extent) (before : ℕ) (group : List ℕ) (x : Extent) → ((us : List ℕ) → extent (group ++ us) ≡ x)
    → (x.lost ≡ false → x.used.0 ≡ before + word_bytes (length group)) → (ws : List ℕ) → Front extent before (group ++ ws)
ends extent before group x is bytes ws =
    record {
      count = length group;
      there = omega (arith, length-append group ws);
      alike = λ rest. rw (take-append_seam group ws) (is rest ∙ sym (is ws));
      all_taken = λ l. ap (λ (e : Extent). e.used.0) (is ws) ∙ bytes (sym (ap (λ (e : Extent). e.lost) (is ws)) ∙ l);
    }

-- or it goes on behind the group
goes_on : (extent next : List ℕ → Extent) (before : ℕ) (group : List ℕ) → ((us : List ℕ) → extent (group ++ us) ≡ next us)
    → (ws : List ℕ) → Front next (before + word_bytes (length group)) ws → Front extent before (group ++ ws)
goes_on extent next before group is ws w =
    record {
      count = length group + w.count;
      there = omega (arith, length-append group ws, w.there);
      alike =
          λ rest.
          rw (take-append-add group ws w.count, append_assoc group (take w.count ws) rest)
          (is (take w.count ws ++ rest) ∙ w.alike rest ∙ sym (is ws));
      all_taken =
          λ l.
          ap (λ (e : Extent). e.used.0) (is ws)
          ∙ w.all_taken (sym (ap (λ (e : Extent). e.lost) (is ws)) ∙ l)
          ∙ omega arith;
    }

-- by the tests in their order
by_tests : (extent next : List ℕ → Extent) (before : ℕ) (group : List ℕ) (over full : Bool)
    → ((us : List ℕ) → extent (group ++ us) ≡ cond over (fault 7) (cond full (taken (before + word_bytes (length group))) (next us)))
    → (ws : List ℕ) → ((next ws ≡ fault 1 → ⊥) → Front next (before + word_bytes (length group)) ws)
    → (extent (group ++ ws) ≡ fault 1 → ⊥) → Front extent before (group ++ ws)
by_tests extent next before group true full is ws ih h = ends extent before group (fault 7) is (λ l. absurd (false≢true (sym l))) ws
by_tests extent next before group false true is ws ih h =
    ends extent before group (taken (before + word_bytes (length group))) is (λ l. refl) ws
by_tests extent next before group false false is ws ih h = goes_on extent next before group is ws (ih (λ e. h (is ws ∙ e)))

runs_front : (v left : ℕ) (ws : List ℕ) (before : ℕ) → (runs_from v left ws before ≡ fault 1 → ⊥)
    → Front (λ us. runs_from v left us before) before ws
unfolding runs_from
runs_front v left [] before h = absurd (h refl)
runs_front v left (n ∷ ws) before h =
    by_tests (λ us. runs_from v left us before) (λ us. runs_from (1 - v) (left - n) us (before + word_bytes 1)) before (n ∷ [])
    (ltb left n) (eqb v 0 && eqb left n) (λ us. refl) ws (runs_front (1 - v) (left - n) ws (before + word_bytes 1)) h

pairs-front : (left : ℕ) (ws : List ℕ) (before : ℕ) → (pairs_from left ws before ≡ fault 1 → ⊥)
    → Front (λ us. pairs_from left us before) before ws
unfolding pairs_from
pairs-front left [] before h = absurd (h refl)
pairs-front left (v ∷ []) before h = absurd (h refl)
pairs-front left (v ∷ (n ∷ ws)) before h =
    by_tests (λ us. pairs_from left us before) (λ us. pairs_from (left - n) us (before + word_bytes 2)) before (v ∷ (n ∷ []))
    (ltb left n) (eqb left n) (λ us. refl) ws (pairs-front (left - n) ws (before + word_bytes 2)) h

-- the words at the front are in the bytes at the front
by_words : (extent : List ℕ → Extent) (r : List ℕ) → Front extent 0 (words r) → Settled (λ s. extent (words s)) r
by_words extent r w =
    let n = w.count in
    let there : word_bytes n ≤ length r = omega (arith, w.there, length-words r) in
    record {
      size = word_bytes n;
      alike =
          λ rest.
          let s = take (word_bytes n) r ++ rest in
          let same : take n (words s) ≡ take n (words r) =
          sym (words_take s n) ∙ ap words (take_at (take (word_bytes n) r) rest (word_bytes n) (length-take-le (word_bytes n) r there)) ∙ words_take r n in
          ap extent (sym (take-append-drop n (words s)) ∙ ap (λ (l : List ℕ). l ++ drop n (words s)) same) ∙ w.alike (drop n (words s));
      all_taken = λ l. omega (arith, w.all_taken l);
    }

pub runs_settled : (r : List ℕ) (p : ℕ) → (run_extent r p ≡ fault 1 → ⊥) → Settled (λ s. run_extent s p) r
runs_settled r p h = by_words (λ ws. runs_from 0 p ws 0) r (runs_front 0 p (words r) 0 h)

pub pairs_settled : (r : List ℕ) (p : ℕ) → (pair_extent r p ≡ fault 1 → ⊥) → Settled (λ s. pair_extent s p) r
pairs_settled r p h = by_words (λ ws. pairs_from p ws 0) r (pairs-front p (words r) 0 h)
