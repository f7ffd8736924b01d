-- The length of a header and its table area; and every field at the paper's byte: the header is the entries of the table of
-- positions, stored over zeros.
use Rattle.std.specs.Prelude.{ℕ, zero, suc, ◌+◌, ◌*◌, ◌<◌, ◌≡◌, refl, cond, List, [], ◌∷◌, ◌++◌, length, get_or, take, drop, eqb}
use Rattle.std.proofs.Common.{sym, ◌∙◌, ap, append_assoc, arith, length-append, drop_at, eq-eqb, ne_eqb}
use Rattle.std.proofs.lemmas.List.{length-replicate, get_or-replicate, replicate-append-replicate}
use Rattle.std.proofs.Math.ListN.{get_or-append}
use Rattle.std.proofs.lemmas.List.Edits.{sets}
use Rattle.std.proofs.Math.Seq.{take-append_seam}
use Rattle.std.proofs.Math.Dec.{eqb-suc-zero}
use Rattle.units.specs.Counts.{bytes_of_blocks}
use Rattle.units.specs.Over.{over, zeros}
use Rattle.units.proofs.Laws.Over.{over_nil, over_fits, sets_part, sets_misses}
use Rattle.encode_header.specs.Picture.{Picture}
use Rattle.encode_header.specs.Header.{one_float, blocks_of, table_area, header_bytes, header_size}
use Rattle.encode_header.specs.Positions.{Entry, positions, Every, Stands, Misses, AllFieldsInPlace}

pub length-header : (i : Picture) → length (header_bytes i) ≡ (header_size i.table).0
length-header i = omega arith

-- two blocks, or three
two_blocks : (table : List ℕ) → length table ≡ 0 → ((header_size table).0 ≡ (bytes_of_blocks (blocks_of table)).0) × ((header_size table).0 ≡ 1024)
two_blocks table e = rw (eq-eqb (length table) 0 e) (refl, refl)

three_blocks : (table : List ℕ) → length table ≡ 768 → ((header_size table).0 ≡ (bytes_of_blocks (blocks_of table)).0) × ((header_size table).0 ≡ 1536)
three_blocks table e = rw (ne_eqb (length table) 0 (λ z. omega arith)) (omega arith, omega arith)

-- the area begins with the table
table_stands : (table rest : List ℕ) → take (length table) (table_area table ++ rest) ≡ table
table_stands [] rest = refl
table_stands (x ∷ table) rest = rw (eqb-suc-zero (length table)) (take-append_seam (x ∷ table) rest)

-- the table put over zeros, as many as its area has
pub area_put : (table rest : List ℕ) → over table (zeros (length (table_area table)) ++ rest) ≡ table_area table ++ rest
area_put [] rest = over_nil (zeros 256 ++ rest)
area_put (x ∷ table) rest =
    let all = x ∷ table in
    let z = zeros (length all) in
    rw (eqb-suc-zero (length table))
    (over_fits all (z ++ rest) (omega (arith, length-append z rest, length-replicate {A = ℕ} (length all) 0))
    ∙ ap (λ (l : List ℕ). all ++ l) (drop_at z rest (length all) (length-replicate {A = ℕ} (length all) 0)))

-- entries stored one after the other
abbrev placed : List Entry → List ℕ → List ℕ
placed [] l = l
placed (e ∷ es) l = placed es (sets l e.at e.bytes)

placed_misses : (es : List Entry) (l : List ℕ) (j : ℕ) → Every (Misses j) es → get_or (placed es l) j 0 ≡ get_or l j 0
placed_misses [] l j m = refl
placed_misses (e ∷ es) l j m = placed_misses es (sets l e.at e.bytes) j m.1 ∙ sets_misses l e.at e.bytes j m.0

-- one of the first four numbers
below_four : (P : ℕ → Type 0) → P 0 → P 1 → P 2 → P 3 → (n : ℕ) → n < 4 → P n
below_four P a b c d zero h = a
below_four P a b c d (suc zero) h = b
below_four P a b c d (suc (suc zero)) h = c
below_four P a b c d (suc (suc (suc zero))) h = d
below_four P a b c d (suc (suc (suc (suc n)))) h = absurd (omega arith)

module _ (i : Picture) (rest : List ℕ) where
  stand : Every (Stands (header_bytes i ++ rest)) (positions i)
  stand = (refl, (refl, (refl, (refl, (refl, (refl, (refl, (refl, (refl, (refl, (refl, (refl, (table_stands i.table rest, tt)))))))))))))

  abbrev Float : ℕ → ℕ → Type 0
  Float r c = take 8 (drop (56 + 8 * (4 * r + c)) (header_bytes i ++ rest)) ≡ cond (eqb r c) one_float (zeros 8)

  float_row : (c : ℕ) → c < 4 → (r : ℕ) → r < 4 → Float r c
  float_row c h r g =
      below_four (λ (r : ℕ). Float r c)
      (below_four (λ (c : ℕ). Float 0 c) refl refl refl refl c h)
      (below_four (λ (c : ℕ). Float 1 c) refl refl refl refl c h)
      (below_four (λ (c : ℕ). Float 2 c) refl refl refl refl c h)
      (below_four (λ (c : ℕ). Float 3 c) refl refl refl refl c h)
      r g

  abbrev area : ℕ
  area = length (table_area i.table)

  abbrev blank : List ℕ
  blank = zeros 768 ++ (zeros area ++ rest)

  -- the header is the entries, stored over zeros
  header-placed : placed (positions i) blank ≡ header_bytes i ++ rest
  header-placed =
      sets_part (take 768 (header_bytes i) ++ (zeros area ++ rest)) 768 i.table
      ∙ ap (λ (l : List ℕ). take 768 (header_bytes i) ++ l) (area_put i.table rest)

  zero_at : (j : ℕ) → j < 768 + area → get_or blank j 0 ≡ 0
  zero_at j h =
      ap (λ (l : List ℕ). get_or l j 0) (sym (append_assoc (zeros 768) (zeros area) rest))
      ∙ ap (λ (l : List ℕ). get_or (l ++ rest) j 0) (replicate-append-replicate {A = ℕ} 768 area 0)
      ∙ get_or-append (zeros (768 + area)) rest 0 j (omega (arith, length-replicate {A = ℕ} (768 + area) 0))
      ∙ get_or-replicate (768 + area) j 0 0 h

  missed : (j : ℕ) → j < length (header_bytes i) → Every (Misses j) (positions i) → get_or (header_bytes i ++ rest) j 0 ≡ 0
  missed j h m =
      ap (λ (l : List ℕ). get_or l j 0) (sym header-placed)
      ∙ placed_misses (positions i) blank j m
      ∙ zero_at j (omega (arith, length-header i))

pub fields_in_place : AllFieldsInPlace
fields_in_place i rest =
    record {
      fields = stand i rest;
      zero_elsewhere = missed i rest;
      matrix = λ r c g h. float_row i rest c h r g;
      no_table = λ e. let b = two_blocks i.table e in (length-header i ∙ b.0, length-header i ∙ b.1);
      with_table = λ e. let b = three_blocks i.table e in (length-header i ∙ b.0, length-header i ∙ b.1);
    }
