-- A raster whose scanlines stand one after the other, each good whatever follows it: each is reached where it stands, and is good.
use Prim.Native.Nat.{ℕ, zero, suc, ◌+◌, ◌≤◌, ◌<◌}
use Rattle.std.specs.Prelude.{◌≡◌, true, length, take, drop}
use Rattle.std.proofs.Math.Path.{refl, ap, subst⁻¹}
use Rattle.std.proofs.Common.{sym, ◌∙◌, inl, inr, arith, length-append, drop_at}
use mathlib.Core.List.{List, [], ◌++◌, append-nil, append_assoc}
use Rattle.std.proofs.Math.Numerals.{add-one}
use Rattle.std.proofs.Math.ListN.{replicate-append-replicate}
use Rattle.std.proofs.Math.Seq.{take_at}
use Rattle.units.proofs.Laws.Numbers.{below_next}
use Rattle.units.specs.Over.{zeros}
use Rattle.layout.specs.Scanline.{head_of, Reading, step_of, reading_of}
use Rattle.layout.specs.Chain.{Raster, from, step_at, start, reached, head_at, number_of, reading_at, statuses, good_count}
use Rattle.layout.proofs.Laws.Chain.{start_zero, start_suc, reached-zero, reached-suc, reading_reached}
use Rattle.layout.proofs.Laws.Numbering.{same_number}
use Rattle.layout.proofs.Laws.Written.{Back}

-- n scanlines behind what stands before them. `line k` is scanline k, `lines k` the first k of them, and `row k` what it reads as where
-- `number k` is wanted.
pub record Lined (r : Raster) (n : ℕ) (number : ℕ → ℕ) (line lines row : ℕ → List ℕ) : Type 0 where
  pub head : List ℕ
  pub none : lines zero ≡ []
  pub next : (k : ℕ) → lines (suc k) ≡ lines k ++ line k
  pub file : r.bytes ≡ head ++ lines n
  pub starts : r.data_start ≡ length head
  pub back : (k : ℕ) → k < n → (rest : List ℕ)
      → Back (step_of r.scn r.data_type r.ppl (line k ++ rest)) (reading_of r.scn r.data_type r.ppl (number k) (line k ++ rest)) (row k)
      (length (line k))

module _ (r : Raster) (n : ℕ) (number : ℕ → ℕ) (line lines row : ℕ → List ℕ) (w : Lined r n number line lines row) where
  -- scanline k of m stands after those before it, and others follow
  lines_split : (m k : ℕ) → k < m → (rest : List ℕ) × (lines m ≡ lines k ++ (line k ++ rest))
  lines_split zero k h = absurd (omega arith)
  lines_split (suc m) k h =
      elim (below_next k m h) [
        | inl l ↦
            let s = lines_split m k l in (
              s.0 ++ line m,
              w.next m
                  ∙ ap (λ (x : List ℕ). x ++ line m) s.1
                  ∙ append_assoc (lines k) (line k ++ s.0) (line m)
                  ∙ ap (λ (x : List ℕ). lines k ++ x) (append_assoc (line k) s.0 (line m)),
            )
        | inr e ↦ ([], rw e (w.next m ∙ ap (λ (x : List ℕ). lines m ++ x) (sym (append-nil (line m)))))
      ]

  from_there : (k : ℕ) → k < n → start r k ≡ length w.head + length (lines k)
      → (rest : List ℕ) × (from r (start r k) ≡ line k ++ rest)
  from_there k h s =
      let l = lines_split n k h in
      let e : r.bytes ≡ (w.head ++ lines k) ++ (line k ++ l.0) =
      w.file ∙ ap (λ (x : List ℕ). w.head ++ x) l.1 ∙ sym (append_assoc w.head (lines k) (line k ++ l.0)) in (
        l.0,
        ap (drop (start r k)) e
            ∙ drop_at (w.head ++ lines k) (line k ++ l.0) (start r k) (length-append w.head (lines k) ∙ sym s),
      )

  there : (k : ℕ) → k < n → start r k ≡ length w.head + length (lines k)
      → Back (step_at r (start r k)) (reading_of r.scn r.data_type r.ppl (number k) (from r (start r k))) (row k) (length (line k))
  there k h s =
      let d = from_there k h s in
      subst⁻¹
      (λ (x : List ℕ). Back (step_of r.scn r.data_type r.ppl x) (reading_of r.scn r.data_type r.ppl (number k) x) (row k) (length (line k)))
      d.1 (w.back k h d.0)

  pub reaches : (k : ℕ) → k ≤ n → (start r k ≡ length w.head + length (lines k)) × (reached r k ≡ true)
  reaches zero h = (omega (arith, start_zero r, w.starts, ap length w.none), reached-zero r)
  reaches (suc k) h =
      let q = reaches k (omega arith) in
      let b = there k h q.0 in (
        omega (arith, start_suc r k, q.0, b.used, ap length (w.next k), length-append (lines k) (line k)),
        reached-suc r k ∙ rw (q.1, b.lost),
      )

  -- the bytes from scanline k on
  pub stands : (k : ℕ) → k < n → (rest : List ℕ) × (from r (start r k) ≡ line k ++ rest)
  stands k h = from_there k h (reaches k (omega arith)).0

  pub end_is : start r n ≡ length r.bytes
  end_is = omega (arith, (reaches n (omega arith)).0, ap length w.file, length-append w.head (lines n))

  -- the header of scanline k, where it has one
  pub head_there : (k : ℕ) → k < n → (hd body : List ℕ) → line k ≡ hd ++ body → length hd ≡ 8 → head_at r k ≡ hd
  unfolding head_of
  head_there k h hd body e eight =
      let s = stands k h in
      ap (take 8) (s.1 ∙ ap (λ (x : List ℕ). x ++ s.0) e ∙ append_assoc hd body s.0) ∙ take_at hd (body ++ s.0) 8 eight

  pub record Reads (k : ℕ) : Type 0 where
    pub status : (reading_at r k).status ≡ 0
    pub row_is : (reading_at r k).row ≡ row k

  -- the numbers wanted, where there are headers, are those of the raster
  module _ (numbered : r.scn ≡ 1 → (k : ℕ) → k < n → number_of r k ≡ number k) where
    pub reads : (k : ℕ) → k < n → Reads k
    reads k h =
        let q = reaches k (omega arith) in
        let b = there k h q.0 in
        let e : reading_at r k ≡ reading_of r.scn r.data_type r.ppl (number k) (from r (start r k)) =
        reading_reached r k q.1 ∙ same_number r.scn r.data_type r.ppl (from r (start r k)) (λ one. numbered one k h) in
        record { status = ap (λ (x : Reading). x.status) e ∙ b.status; row_is = ap (λ (x : Reading). x.row) e ∙ b.pixels }

    -- of the first m scanlines
    pub statuses_are : (m : ℕ) → m ≤ n → statuses r m ≡ zeros m
    unfolding statuses
    statuses_are zero h = refl
    statuses_are (suc m) h =
        rw (statuses_are m (omega arith), (reads m h).status, replicate-append-replicate {A = ℕ} m 1 0, add-one m)

    pub good_are : (m : ℕ) → m ≤ n → good_count r m ≡ m
    unfolding good_count
    good_are zero h = refl
    good_are (suc m) h = rw (good_are m (omega arith), (reads m h).status) (add-one m)
