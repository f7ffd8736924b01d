-- What is known of a raster's chain on the way, and how its rows are stored.
use Rattle.std.specs.Prelude.{ℕ, zero, suc, ◌+◌, ◌*◌, ◌≤◌, ◌≡◌, refl, not, List, [], ◌++◌, length}
use Rattle.std.proofs.Common.{sym, ◌∙◌, ap, zero-mul, suc-mul, arith}
use Rattle.refusals.specs.Faults.{status_of}
use Rattle.units.specs.Counts.{word_bytes}
use Rattle.units.specs.Over.{zeros}
use Rattle.units.specs.Words.{words_to_bytes}
use Rattle.units.proofs.Laws.Stores.{length-bytes, bytes-append, zero-bytes}
use Rattle.limits.specs.Limits.{most_lines}
use Rattle.layout.specs.Chain.{Raster, start, reached, reading_at, good_count}
use Rattle.layout.proofs.Laws.Numbering.{RolloverKnown}
use Rattle.decode_raster.specs.declared.Chain.{Chain}
unfoldable pub use Rattle.decode_raster.specs.Answer.{good_chain}

-- A way to store rows of p pixels: what a list of pixels is in the buffer, and the places that a row takes there.
pub record Storing (p : ℕ) : Type 0 where
  pub image : List ℕ → List ℕ
  pub width : ℕ
  pub none : image [] ≡ []
  pub more : (a b : List ℕ) → image (a ++ b) ≡ image a ++ image b
  pub row_width : (row : List ℕ) → length row ≡ p → length (image row) ≡ width
  pub blank : (m : ℕ) → image (zeros (m * p)) ≡ zeros (m * width)

-- as pixels of 16 bits, and as bytes, two for each
abbrev pub as_pixels : (p : ℕ) → Storing p
as_pixels p = record { image = λ row. row; width = p; none = refl; more = λ a b. refl; row_width = λ row l. l; blank = λ m. refl }

pub no_bytes : words_to_bytes [] ≡ []
unfolding words_to_bytes
no_bytes = refl

pub rows-bytes : (n p : ℕ) → n * word_bytes p ≡ word_bytes (n * p)
rows-bytes zero p = rw (zero-mul (2 * p), zero-mul p)
rows-bytes (suc n) p = omega (arith, suc-mul n (2 * p), suc-mul n p, rows-bytes n p)

abbrev pub as_bytes : (p : ℕ) → Storing p
as_bytes p =
    record {
      image = words_to_bytes;
      width = word_bytes p;
      none = no_bytes;
      more = bytes-append;
      row_width = λ row l. length-bytes row ∙ ap word_bytes l;
      blank = λ m. zero-bytes (m * p) ∙ ap zeros (sym (rows-bytes m p));
    }

-- the limits by which nothing overflows, and buffers with room for every row and status
pub record Fits (r : Raster) (width pixels marks : ℕ) : Type 0 where
  pub starts : r.data_start ≤ length r.bytes
  pub nol_most : r.nol ≤ most_lines
  pub pixels_fit : r.nol * width ≤ pixels
  pub marks_fit : r.nol ≤ marks

-- the chain before scanline k
pub record ChainAt (r : Raster) (k : ℕ) (c : Chain) : Type 0 where
  pub at : c.at ≡ start r k
  pub lost : c.lost ≡ not (reached r k)
  pub good : c.good ≡ good_count r k
  pub rollover : RolloverKnown r k c.rollover

-- the chain after scanline k, with its status and its row
pub record Stepped (r : Raster) (s : Storing r.ppl) (k : ℕ) (c : Chain) (row : List ℕ) : Type 0 where
  pub chain : ChainAt r (k + 1) c
  pub status : status_of c.status ≡ (reading_at r k).status
  pub row_is : row ≡ s.image (reading_at r k).row
