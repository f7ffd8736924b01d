-- The offset is looked at by no rule but its own, and leaves the body a shorter row.
use Rattle.std.specs.Prelude.{ℕ, zero, suc, ◌+◌, ◌-◌, ◌≤◌, ◌<◌, ◌≡◌, refl, Bool, true, false, cond, List, [], ◌∷◌, ◌++◌, length, get_or, set, eqb}
use Rattle.std.proofs.Common.{sym, ◌∙◌, arith, get_or-set_other, le-ltb}
use Rattle.std.proofs.Math.Path.{ap, ap₂}
use Rattle.std.proofs.lemmas.List.{replicate-append-replicate}
use Rattle.std.proofs.Math.Seq.{length-sets}
use Rattle.units.specs.LittleEndian.{byte_at, u16_at, u16_bytes}
use Rattle.units.specs.Over.{zeros}
use Rattle.units.specs.Rules.{first}
use Rattle.units.proofs.Laws.Over.{sets_misses}
use Rattle.codec.specs.Codec.{row_of}
use Rattle.codec.specs.Table.{body_pixels}
use Rattle.layout.specs.Scanline.{pixel_offset, body_width, status_rules, row_pixels, reading}
use Rattle.layout.specs.Partway.{from_start, StartsPartway, AllStartPartway}

set-zero : (l : List ℕ) (i : ℕ) → get_or (set l i 0) i 0 ≡ 0
set-zero [] i = refl
set-zero (x ∷ l) zero = refl
set-zero (x ∷ l) (suc i) = set-zero l i

-- the rest of the header is as it was
module _ (hd : List ℕ) where
  byte_kept : (i : ℕ) → i < 6 → byte_at (from_start hd) i ≡ byte_at hd i
  unfolding from_start
  byte_kept i h = sets_misses hd 6 (u16_bytes 0) i (λ a b. omega arith)

  word_kept : (i : ℕ) → i + 1 < 6 → u16_at (from_start hd) i ≡ u16_at hd i
  unfolding u16_at
  word_kept i h = rw (byte_kept i (omega arith), byte_kept (i + 1) h)

  length-kept : length (from_start hd) ≡ length hd
  unfolding from_start
  length-kept = length-sets hd 6 (u16_bytes 0)

  offset_gone : pixel_offset (from_start hd) ≡ 0
  unfolding from_start u16_at
  offset_gone = rw (get_or-set_other (set hd 6 0) 7 6 0 0 (λ e. omega arith), set-zero hd 6, set-zero (set hd 6 0) 7)

module _ (t p number : ℕ) (hd body : List ℕ) (h : pixel_offset hd ≤ p) where
  rules_same : status_rules t p number hd body ≡ status_rules t (body_width p hd) number (from_start hd) body
  rules_same =
      let w : body_width p hd - 0 ≡ body_width p hd = omega arith in
      rw (
        length-kept hd,
        byte_kept hd 1 (omega arith),
        word_kept hd 2 (omega arith),
        word_kept hd 4 (omega arith),
        offset_gone hd,
        le-ltb p (pixel_offset hd) h,
        le-ltb (body_width p hd) 0 (omega arith),
        w,
      )

  row_shifted : (s : ℕ) (pixels : List ℕ) → row_of s p (zeros (pixel_offset hd) ++ pixels) ≡ zeros (pixel_offset hd) ++ row_of s (body_width p hd) pixels
  row_shifted s pixels = go (eqb s 0)
    where
      go : (b : Bool) → cond b (zeros (pixel_offset hd) ++ pixels) (zeros p) ≡ zeros (pixel_offset hd) ++ cond b pixels (zeros (body_width p hd))
      go true = refl
      go false =
          let n : pixel_offset hd + body_width p hd ≡ p = omega arith in
          sym (replicate-append-replicate (pixel_offset hd) (body_width p hd) 0 ∙ ap zeros n)

  partway : StartsPartway t p number hd body
  unfolding reading
  partway =
      let w = body_width p hd in
      let o = zeros (pixel_offset hd) in
      let after = first (status_rules t w number (from_start hd) body) in
      let s : first (status_rules t p number hd body) ≡ after = ap first rules_same in
      let same : w ≡ body_width w (from_start hd) = omega (arith, offset_gone hd) in
      record {
        status = s;
        row =
            ap (λ (n : ℕ). row_of n p (row_pixels t p hd body)) s
            ∙ row_shifted after (body_pixels t body w)
            ∙ ap₂ (λ (n m : ℕ). o ++ row_of after w (zeros n ++ body_pixels t body m)) (sym (offset_gone hd)) same;
      }

pub starts_partway : AllStartPartway
starts_partway = partway
