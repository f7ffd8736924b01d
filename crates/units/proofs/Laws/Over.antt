-- Bytes put over a buffer, and the stores that put them there one by one. A store past the end changes nothing, so `sets`
-- goes as far as the buffer does.
use Rattle.std.specs.Prelude.{ℕ, zero, suc, ◌+◌, ◌≤◌, ◌<◌, min, ◌≡◌, refl, Bool, true, false, List, [], ◌∷◌, ◌++◌, length, get_or, take, drop, set, ltb}
use Rattle.std.proofs.Common.{sym, ◌∙◌, ap, append-nil, add-zero, add-suc, suc-add, zero-add, arith, length-append, length-take, length-drop, drop_of_length-le, ltb-true, ltb-false, add-one, get_or-set_other, take_all, take-take, length-take-le, drop-cons}
use Rattle.std.proofs.lemmas.List.{take_more}
use Rattle.std.proofs.lemmas.List.Edits.{sets}
use Rattle.std.proofs.Math.Seq.{set_out, take-nil}
use Rattle.units.specs.Over.{over}

pub sets-append : (l : List ℕ) (i : ℕ) (a b : List ℕ) → sets l i (a ++ b) ≡ sets (sets l i a) (i + length a) b
sets-append l i [] b = rw (add-zero i)
sets-append l i (x ∷ a) b =
    sets-append (set l i x) (suc i) a b
    ∙ ap (λ (k : ℕ). sets (sets (set l i x) (suc i) a) k b) (suc-add i (length a) ∙ sym (add-suc i (length a)))

pub sets_past : (l : List ℕ) (i : ℕ) (vs : List ℕ) → length l ≤ i → sets l i vs ≡ l
sets_past l i [] h = refl
sets_past l i (x ∷ vs) h = rw (set_out l i x h) (sets_past l (suc i) vs (omega arith))

-- a place that no store meets is as it was
pub sets_misses : (l : List ℕ) (at : ℕ) (vs : List ℕ) (j : ℕ) → (at ≤ j → j < at + length vs → ⊥) → get_or (sets l at vs) j 0 ≡ get_or l j 0
sets_misses l at [] j m = refl
sets_misses l at (v ∷ vs) j m =
    sets_misses (set l at v) (suc at) vs j (λ a b. m (omega arith) (omega arith))
    ∙ get_or-set_other l at j v 0 (λ e. m (omega arith) (omega arith))

sets-cons : (x : ℕ) (l : List ℕ) (i : ℕ) (vs : List ℕ) → sets (x ∷ l) (suc i) vs ≡ x ∷ sets l i vs
sets-cons x l i [] = refl
sets-cons x l i (v ∷ vs) = sets-cons x (set l i v) (suc i) vs

pub over_nil : (old : List ℕ) → over [] old ≡ old
unfolding over
over_nil old = rw (take-nil {A = ℕ} (length old))

pub sets_over : (new old : List ℕ) → sets old 0 new ≡ over new old
unfolding over
sets_over [] old = sym (over_nil old)
sets_over (b ∷ new) [] = sets_past [] 0 (b ∷ new) (omega arith)
sets_over (b ∷ new) (x ∷ old) = sets-cons b old 0 new ∙ ap (λ (l : List ℕ). b ∷ l) (sets_over new old)

-- the buffer's length stays
pub length_over : (new old : List ℕ) → length (over new old) ≡ length old
unfolding over
length_over new old =
    omega (arith, length-append (take (length old) new) (drop (length new) old), length-take (length old) new, length-drop (length new) old)

-- more bytes behind the first, and all of them where there is room
pub over_append : (a b old : List ℕ) → over (a ++ b) old ≡ sets (over a old) (length a) b
over_append a b old = rw (← sets_over (a ++ b) old, ← sets_over a old, sets-append old 0 a b, zero-add (length a))

pub over_fits : (new old : List ℕ) → length new ≤ length old → over new old ≡ new ++ drop (length new) old
unfolding over
over_fits new old h = rw (take_all (length old) new h)

-- stores from `at` on are bytes put over the part that starts there
pub sets_part : (l : List ℕ) (at : ℕ) (vs : List ℕ) → sets l at vs ≡ take at l ++ over vs (drop at l)
sets_part l zero vs = sets_over vs l
sets_part [] (suc at) vs = sets_past [] (suc at) vs (omega arith) ∙ sym (sets_past [] 0 vs (omega arith)) ∙ sets_over vs []
sets_part (x ∷ l) (suc at) vs = sets-cons x l at vs ∙ ap (λ (r : List ℕ). x ∷ r) (sets_part l at vs)

-- a buffer that is filled whole
pub over_full : (new old : List ℕ) → length old ≤ length new → over new old ≡ take (length old) new
unfolding over
over_full new old h = rw (drop_of_length-le old {i = length new} h) (append-nil (take (length old) new))

-- as many bytes as there is room for
pub over_all : (new old : List ℕ) → length new ≡ length old → over new old ≡ new
over_all new old e = over_full new old (omega arith) ∙ take_all (length old) new (omega arith)

-- no more than there is room for
pub over_taken : (new old : List ℕ) → over (take (length old) new) old ≡ over new old
over_taken new old = go (ltb (length new) (length old)) refl
  where
    go : (b : Bool) → ltb (length new) (length old) ≡ b → over (take (length old) new) old ≡ over new old
    go true t = rw (take_all (length old) new (omega (arith, ltb-true (length new) (length old) t)))
    go false t =
        let h : length old ≤ length new = ltb-false (length new) (length old) t in
        let l : length (take (length old) new) ≡ length old = length-take-le (length old) new h in
        over_full (take (length old) new) old (omega arith)
        ∙ take-take (length old) (length old) new (omega arith)
        ∙ sym (over_full new old h)

-- no more than there is
pub take_least : (s : List ℕ) (p m : ℕ) → m ≡ min (length s) p → take m s ≡ take p s
take_least s p m e = go (ltb (length s) p) refl
  where
    go : (b : Bool) → ltb (length s) p ≡ b → take m s ≡ take p s
    go true t =
        let h : length s < p = ltb-true (length s) p t in
        rw (take_all m s (omega arith), take_all p s (omega arith))
    go false t =
        let h : p ≤ length s = ltb-false (length s) p t in
        let q : m ≡ p = omega arith in
        rw q

-- A loop that stores a list from the front, one element a turn: element i and those behind it, or none is left or no room.
module _ (xs out : List ℕ) (i : ℕ) where
  pub sets-step : i < length xs → sets out i (drop i xs) ≡ sets (set out i (get_or xs i 0)) (i + 1) (drop (i + 1) xs)
  sets-step h = rw (add-one i, drop-cons xs i 0 h)

  pub sets_end : min (length xs) (length out) ≤ i → sets out i (drop i xs) ≡ out
  sets_end h = go (ltb i (length xs)) refl
    where
      go : (b : Bool) → ltb i (length xs) ≡ b → sets out i (drop i xs) ≡ out
      go true e = sets_past out i (drop i xs) (omega (arith, ltb-true i (length xs) e))
      go false e = rw (drop_of_length-le xs {i = i} (ltb-false i (length xs) e))

-- A loop that puts a list over a buffer, one element a turn: the next, and none is left or no room.
pub over_more : (new old : List ℕ) (i : ℕ) → i < length new → over (take (i + 1) new) old ≡ set (over (take i new) old) i (get_or new i 0)
over_more new old i h =
    let l : length (take i new) ≡ i = length-take-le i new (omega arith) in
    ap (λ (l : List ℕ). over l old) (take_more new i 0 h)
    ∙ over_append (take i new) (get_or new i 0 ∷ []) old
    ∙ ap (λ (k : ℕ). set (over (take i new) old) k (get_or new i 0)) l

pub over_least : (new old : List ℕ) (n : ℕ) → n ≡ min (length new) (length old) → over (take n new) old ≡ over new old
over_least new old n e = ap (λ (l : List ℕ). over l old) (take_least new (length old) n e) ∙ over_taken new old

pub ruleset putting = (over_nil, over_more, over_least)
