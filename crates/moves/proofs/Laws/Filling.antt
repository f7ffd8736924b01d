-- The loops that fill a line, and a picture by rows or by bands of columns.
use Prim.Native.Nat.{ℕ, ◌+◌, ◌-◌, ◌*◌, ◌/◌, ◌%◌, ◌≤◌, ◌<◌}
use Rattle.std.specs.Prelude.{◌≡◌, refl, ◌⊎◌, Bool, true, false, length, get_or, take, set, eqb, ltb}
use Rattle.std.proofs.Math.Path.{sym}
use Rattle.std.proofs.Common.{◌∙◌, ap, subst, inl, inr, div-add-mod', arith, length-append, length-set, get_or-set_same, get_or-set_other, get_or-take, get_or-drop, get_or-append-add, length-take-le, eqb-true, ltb-true, ltb-false}
use mathlib.Core.List.{List, ◌++◌}
use Rattle.std.proofs.Math.ListN.{drop, length-drop, get_or-append}
use Rattle.std.proofs.Math.Seq.{ext_get_or}
use Rattle.std.proofs.lemmas.Bool.{eqb-false}
use borrow.Rule.Slice.PartMut.{mid_of, post_of, put_mid, mid_len, same_len_mid, take_put, drop_put}
use Rattle.moves.specs.Tabulate.{tabulate}
use Rattle.moves.proofs.Laws.Tabulate.{length-tabulate, get_or-tabulate, is_tabulate}
use Rattle.moves.proofs.Laws.Grid.{rows_apart, row_below, column_below}
use Rattle.moves.proofs.Laws.Picture.{picture}
pub use Rattle.moves.specs.Laws.Filling.{Filled, BandFilled}

-- a list is filled from the front with the values of f: the first i places hold them
pub record Stored (f : ℕ → ℕ) (old new : List ℕ) (i : ℕ) : Type 0 where
  pub same : length new ≡ length old
  pub low : i ≤ length old
  pub done : (j : ℕ) → j < i → get_or new j 0 ≡ f j

module _ (f : ℕ → ℕ) (old : List ℕ) where
  pub stored-none : Stored f old old 0
  stored-none = record { same = refl; low = omega arith; done = λ j h. absurd (omega arith) }

  pub stored_more : (new : List ℕ) (i : ℕ) → Stored f old new i → (v : ℕ) → i < length old → v ≡ f i → Stored f old (set new i v) (i + 1)
  stored_more new i s v h e = record { same = length-set new i v ∙ s.same; low = omega arith; done = λ j b. go j b (eqb j i) refl }
    where
      go : (j : ℕ) → j < i + 1 → (t : Bool) → eqb j i ≡ t → get_or (set new i v) j 0 ≡ f j
      go j b true t = rw (eqb-true j i t) (get_or-set_same new i v 0 (omega (arith, s.same)) ∙ e)
      go j b false t =
          let o : j ≡ i → ⊥ = eqb-false j i t in
          get_or-set_other new i j v 0 o ∙ s.done j (omega arith)

pub stored_all : (f : ℕ → ℕ) (old new : List ℕ) (i : ℕ) → Stored f old new i → length old ≤ i → new ≡ tabulate (length old) f
stored_all f old new i s h = is_tabulate new (length old) f s.same (λ j b. s.done j (omega arith))

-- a list whose part from a to e is replaced, place by place
module _ (a e : ℕ) (d ys : List ℕ) (low : a ≤ e) (high : e ≤ length d) (fits : length ys ≡ e - a) where
  before_part : (q : ℕ) → q < a → get_or (put_mid a (e - a) d ys) q 0 ≡ get_or d q 0
  before_part q h =
      sym (get_or-take a (put_mid a (e - a) d ys) q 0 h)
      ∙ ap (λ (l : List ℕ). get_or l q 0) (take_put a (e - a) d ys (omega arith))
      ∙ get_or-take a d q 0 h

  after_part : (q : ℕ) → e ≤ q → get_or (put_mid a (e - a) d ys) q 0 ≡ get_or d q 0
  after_part q h =
      let s : e + (q - e) ≡ q = omega arith in
      subst (λ (m : ℕ). get_or (put_mid a (e - a) d ys) m 0 ≡ get_or d m 0) s
      (sym (get_or-drop e (put_mid a (e - a) d ys) (q - e) 0)
      ∙ ap (λ (l : List ℕ). get_or l (q - e) 0) (drop_put a e d ys low high fits)
      ∙ get_or-drop e d (q - e) 0)

  in_part : (i : ℕ) → i < e - a → get_or (put_mid a (e - a) d ys) (a + i) 0 ≡ get_or ys i 0
  in_part i h =
      let n : length (take a d) ≡ a = length-take-le a d (omega arith) in
      ap (λ (m : ℕ). get_or (put_mid a (e - a) d ys) (m + i) 0) (sym n)
      ∙ get_or-append-add (take a d) (ys ++ post_of a (e - a) d) i 0
      ∙ get_or-append ys (post_of a (e - a) d) 0 i (omega arith)

module _ (w h : ℕ) (pix : ℕ → ℕ → ℕ) (old : List ℕ) where
  pub filled_none : Filled w h pix 0 0 0 old old
  filled_none = record { done = λ i j a b c. absurd (omega arith); past = λ q g. refl }

  -- a band of columns, before its first row and after its last
  pub band_first : (x e : ℕ) (new : List ℕ) → Filled w h pix x x 0 old new → Filled w h pix x e 0 old new
  band_first x e new f =
      record { done = λ i j a b c. f.done i j a (left i j c) c; past = f.past }
    where
      left : (i j : ℕ) → (j < x) ⊎ (i < 0) → j < x
      left i j (inl l) = l
      left i j (inr l) = absurd (omega arith)

  pub band_last : (x e : ℕ) (new : List ℕ) → Filled w h pix x e h old new → Filled w h pix e e 0 old new
  band_last x e new f = record { done = λ i j a b c. f.done i j a b (inr a); past = f.past }

  -- one run more
  module _ (x e y : ℕ) (mid run : List ℕ) (row : y < h) (low : x ≤ e) (high : e ≤ w) (size : h * w ≤ length mid)
      (run_is : run ≡ tabulate (length (mid_of (y * w + x) (y * w + e - (y * w + x)) mid)) (λ i. pix y (x + i))) where
    end_in_lem : y * w + e ≤ length mid
    end_in_lem = omega (arith, rows_apart w y h row)

    run_length : length run ≡ y * w + e - (y * w + x)
    run_length = ap length run_is ∙ length-tabulate _ _ ∙ mid_len (y * w + x) (y * w + e) mid end_in_lem

    pub run-kept : length (put_mid (y * w + x) (y * w + e - (y * w + x)) mid run) ≡ length mid
    run-kept = same_len_mid (y * w + x) (y * w + e - (y * w + x)) mid run (ap length run_is ∙ length-tabulate _ _)

    pub run_more : Filled w h pix x e y old mid → Filled w h pix x e (y + 1) old (put_mid (y * w + x) (y * w + e - (y * w + x)) mid run)
    run_more f =
        record {
          done = λ i j a b c. go i j a b c (ltb i y) refl (ltb y i) refl (ltb j x) refl;
          past = λ q g. after q (omega (arith, rows_apart w y h row)) ∙ f.past q g;
        }
      where
        new : List ℕ
        new = put_mid (y * w + x) (y * w + e - (y * w + x)) mid run

        before : (q : ℕ) → q < y * w + x → get_or new q 0 ≡ get_or mid q 0
        before = before_part (y * w + x) (y * w + e) mid run (omega arith) end_in_lem run_length

        after : (q : ℕ) → y * w + e ≤ q → get_or new q 0 ≡ get_or mid q 0
        after = after_part (y * w + x) (y * w + e) mid run (omega arith) end_in_lem run_length

        left : (i j : ℕ) → y < i → (j < x) ⊎ (i < y + 1) → j < x
        left i j g (inl l) = l
        left i j g (inr l) = absurd (omega arith)

        inside : (j : ℕ) → x ≤ j → j < e → get_or new (y * w + j) 0 ≡ pix y j
        inside j g b =
            let s : y * w + x + (j - x) ≡ y * w + j = omega arith in
            let t : x + (j - x) ≡ j = omega arith in
            ap (λ (m : ℕ). get_or new m 0) (sym s)
            ∙ in_part (y * w + x) (y * w + e) mid run (omega arith) end_in_lem run_length (j - x) (omega arith)
            ∙ ap (λ (l : List ℕ). get_or l (j - x) 0) run_is
            ∙ get_or-tabulate _ (λ i. pix y (x + i)) (j - x) (omega (arith, mid_len (y * w + x) (y * w + e) mid end_in_lem))
            ∙ ap (λ (m : ℕ). pix y m) t

        go : (i j : ℕ) → i < h → j < e → (j < x) ⊎ (i < y + 1) → (s : Bool) → ltb i y ≡ s → (t : Bool) → ltb y i ≡ t → (u : Bool) → ltb j x ≡ u → get_or new (i * w + j) 0 ≡ pix i j
        go i j a b c true s t _ u _ =
            let g : i < y = ltb-true i y s in
            before (i * w + j) (omega (arith, rows_apart w i y g)) ∙ f.done i j a b (inr g)
        go i j a b c false s true t u _ =
            let g : y < i = ltb-true y i t in
            after (i * w + j) (omega (arith, rows_apart w y i g)) ∙ f.done i j a b (inl (left i j g c))
        go i j a b c false s false t true u =
            let g : j < x = ltb-true j x u in
            let m : i ≡ y = omega (arith, ltb-false i y s, ltb-false y i t) in
            before (i * w + j) (rw m (omega arith)) ∙ f.done i j a b (inl g)
        go i j a b c false s false t false u =
            let g : x ≤ j = ltb-false j x u in
            let m : i ≡ y = omega (arith, ltb-false i y s, ltb-false y i t) in
            rw m (inside j g b)

  -- all is filled
  pub filled_all : (new : List ℕ) → length new ≡ length old → h * w ≤ length old → Filled w h pix w w 0 old new
      → new ≡ picture w h pix ++ drop (h * w) old
  unfolding picture
  filled_all new l room f =
      ext_get_or 0 new (table ++ drop (h * w) old)
      (l ∙ sym (length-append table (drop (h * w) old) ∙ omega (arith, table_length, length-drop (h * w) old)))
      (λ q g. go q (ltb q (h * w)) refl)
    where
      table : List ℕ
      table = tabulate (h * w) (λ q. pix (q / w) (q % w))

      table_length : length table ≡ h * w
      table_length = length-tabulate (h * w) (λ q. pix (q / w) (q % w))

      go : (q : ℕ) → (t : Bool) → ltb q (h * w) ≡ t → get_or new q 0 ≡ get_or (table ++ drop (h * w) old) q 0
      go q true t =
          let g : q < h * w = ltb-true q (h * w) t in
          let c : q % w < w = column_below w h q g in
          ap (λ (m : ℕ). get_or new m 0) (sym (div-add-mod' q w))
          ∙ f.done (q / w) (q % w) (row_below w h q g) c (inl c)
          ∙ sym (get_or-append table (drop (h * w) old) 0 q (omega (arith, table_length)) ∙ get_or-tabulate (h * w) (λ q. pix (q / w) (q % w)) q g)
      go q false t =
          let g : h * w ≤ q = ltb-false q (h * w) t in
          let s : length table + (q - h * w) ≡ q = omega (arith, table_length) in
          let u : h * w + (q - h * w) ≡ q = omega arith in
          f.past q g
          ∙ ap (λ (m : ℕ). get_or old m 0) (sym u)
          ∙ sym (ap (λ (m : ℕ). get_or (table ++ drop (h * w) old) m 0) (sym s) ∙ get_or-append-add table (drop (h * w) old) (q - h * w) 0 ∙ get_or-drop (h * w) old (q - h * w) 0)
