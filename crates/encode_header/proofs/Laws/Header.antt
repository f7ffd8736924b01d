-- The header as stores over zeros, and what stands in the output after them.
use Rattle.std.specs.Prelude.{ℕ, ◌-◌, ◌≤◌, ◌<◌, Bool, true, false, cond, List, ◌++◌, ◌≡◌, refl, length, take, drop, eqb}
use Rattle.std.proofs.Common.{append_assoc, sym, ap, ◌∙◌, arith, length-take-le, lt-ltb, le-ltb}
use Rattle.std.proofs.lemmas.List.{replicate-append-replicate}
use borrow.Rule.Slice.PartMut.{mid_of, put_mid}
use Rattle.units.specs.Counts.{words_of_blocks}
use Rattle.units.specs.Over.{over, zeros}
use Rattle.units.proofs.Laws.Parts.{tail_is, put_tail}
use Rattle.encode_header.specs.declared.Job.{Job}
use Rattle.encode_header.specs.Header.{ctv_of, blocks_of, table_area, header_bytes, header_size}
use Rattle.encode_header.specs.Job.{picture_of, header_over}
use Rattle.encode_header.proofs.Laws.Positions.{length-header, area_put}
unfoldable pub use Rattle.encode_header.specs.Laws.Header.{with_start, with_sizes, with_floats, with_fields}

-- the bytes before the table
unfoldable head_of : Job → List ℕ → List ℕ
head_of j table = take 768 (header_bytes (picture_of j table))

header_is : (j : Job) (table : List ℕ) → header_bytes (picture_of j table) ≡ head_of j table ++ table_area table
unfolding head_of
header_is j table = refl

stored : (j : Job) (table rest : List ℕ)
    → with_fields j ((words_of_blocks (blocks_of table)).0 - 2) (ctv_of table) (zeros 768 ++ rest) ≡ head_of j table ++ rest
unfolding head_of with_fields with_floats with_sizes with_start
stored j table rest = refl

-- two or three blocks
pub blocks_are : (table : List ℕ) → (2 ≤ (blocks_of table).0) × ((blocks_of table).0 ≤ 3)
blocks_are table = go (eqb (length table) 0)
  where
    go : (b : Bool) → (2 ≤ cond b 2 3) × (cond b 2 3 ≤ 3)
    go true = (omega arith, omega arith)
    go false = (omega arith, omega arith)

-- an output that is too short
pub header-none : (j : Job) (table out : List ℕ) {size : ℕ} → size ≡ (header_size table).0 → length out < size
    → (size ≡ length (header_bytes (picture_of j table))) × (out ≡ header_over (picture_of j table) out)
header-none j table out e l =
    let h = header_bytes (picture_of j table) in
    let same = e ∙ sym (length-header (picture_of j table)) in
    let short : length out < length h = omega (arith, same) in
    (same, ap (λ (b : Bool). cond b out (h ++ drop (length h) out)) (sym (lt-ltb (length out) (length h) short)))

-- an output that is not: its first bytes are cleared, the table is put behind 768 of them, and the fields over those
module _ (j : Job) (table out : List ℕ) {size : ℕ} (sized : size ≡ (header_size table).0) (room : size ≤ length out) where
  cleared_is : (y : List ℕ) → y ≡ zeros (length (take size out))
      → y ++ drop size out ≡ zeros 768 ++ (zeros (length (table_area table)) ++ drop size out)
  cleared_is y e =
      ap (λ (l : List ℕ). l ++ drop size out)
      (e ∙ ap zeros (length-take-le size out room ∙ sized) ∙ sym (replicate-append-replicate {A = ℕ} 768 (length (table_area table)) 0))
      ∙ append_assoc (zeros 768) (zeros (length (table_area table))) (drop size out)

  pub header_put : (y : List ℕ) {part new : List ℕ} {wtf ctv : ℕ} → y ≡ zeros (length (take size out))
      → let cleared = y ++ drop size out in
      part ≡ over table (mid_of 768 (length cleared - 768) cleared)
      → wtf ≡ (words_of_blocks (blocks_of table)).0 - 2 → ctv ≡ ctv_of table
      → new ≡ with_fields j wtf ctv (put_mid 768 (length cleared - 768) cleared part)
      → (size ≡ length (header_bytes (picture_of j table))) × (new ≡ header_over (picture_of j table) out)
  header_put y {part} {new} {wtf} {ctv} e p w v n =
      let h = header_bytes (picture_of j table) in
      let area = table_area table in
      let tail = drop size out in
      let cleared = y ++ tail in
      let c : cleared ≡ zeros 768 ++ (zeros (length area) ++ tail) = cleared_is y e in
      let behind : drop 768 cleared ≡ zeros (length area) ++ tail = ap (λ (l : List ℕ). drop 768 l) c in
      let before : take 768 cleared ≡ zeros 768 = ap (λ (l : List ℕ). take 768 l) c in
      let put : part ≡ area ++ tail = p ∙ ap (λ (l : List ℕ). over table l) (tail_is 768 cleared ∙ behind) ∙ area_put table tail in
      let all : put_mid 768 (length cleared - 768) cleared part ≡ zeros 768 ++ (area ++ tail) =
      put_tail 768 cleared part ∙ (λ k. before k ++ put k) in
      let same = sized ∙ sym (length-header (picture_of j table)) in
      let fits : length h ≤ length out = omega (arith, same, room) in (
        same,
        n ∙ (λ k. with_fields j (w k) (v k) (all k)) ∙ stored j table (area ++ tail)
            ∙ sym (append_assoc (head_of j table) area tail)
            ∙ ap (λ (l : List ℕ). l ++ tail) (sym (header_is j table))
            ∙ ap (λ (m : ℕ). h ++ drop m out) same
            ∙ ap (λ (b : Bool). cond b out (h ++ drop (length h) out)) (sym (le-ltb (length out) (length h) fits)),
      )
