-- Parts of a buffer, lent and come back: from a place on, in the middle, and rows one after the other.
use Rattle.std.specs.Prelude.{ℕ, suc, ◌+◌, ◌-◌, ◌*◌, ◌≤◌, ◌<◌, ◌≡◌, List, [], ◌∷◌, ◌++◌, length, get_or, take, drop, set}
use Rattle.std.proofs.Common.{sym, ◌∙◌, ap, append_assoc, append-nil, suc-mul, mul-le-mul_right, arith, length-drop, drop_of_length-le, take_all, take_at, drop_at, drop-drop, drop-cons}
use Rattle.std.proofs.Math.Seq.{drop-append-add}
use Rattle.std.proofs.lemmas.List.{set_at}
use borrow.Rule.Slice.PartMut.{mid_of, put_mid, post_of, Post-is}

pub tail_is : (at : ℕ) (out : List ℕ) → mid_of at (length out - at) out ≡ drop at out
tail_is at out = take_all (length out - at) (drop at out) (omega (arith, length-drop at out))

pub put_tail : (at : ℕ) (out part : List ℕ) → put_mid at (length out - at) out part ≡ take at out ++ part
put_tail at out part =
    let e : drop (length out - at) (drop at out) ≡ [] = drop_of_length-le (drop at out) {i = length out - at} (omega (arith, length-drop at out)) in
    ap (λ (l : List ℕ). take at out ++ (part ++ l)) e ∙ ap (λ (l : List ℕ). take at out ++ l) (append-nil part)

-- bytes put behind those that are done
pub put_next : (done new old out part : List ℕ) (at : ℕ) → length done ≡ at → out ≡ done ++ drop at old
    → part ≡ new ++ drop (length new) (mid_of at (length out - at) out)
    → put_mid at (length out - at) out part ≡ (done ++ new) ++ drop (at + length new) old
put_next done new old out part at l e p =
    let t : take at out ≡ done = ap (λ (x : List ℕ). take at x) e ∙ take_at done (drop at old) at l in
    let d : drop at out ≡ drop at old = ap (λ (x : List ℕ). drop at x) e ∙ drop_at done (drop at old) at l in
    put_tail at out part
    ∙ ap (λ (x : List ℕ). x ++ part) t
    ∙ ap (λ (x : List ℕ). done ++ x)
    (p ∙ ap (λ (x : List ℕ). new ++ drop (length new) x) (tail_is at out ∙ d) ∙ ap (λ (x : List ℕ). new ++ x) (drop-drop (length new) at old))
    ∙ sym (append_assoc done new (drop (at + length new) old))

-- row k lies within the pixels of all rows
pub row_within : (k n p size : ℕ) → k < n → n * p ≤ size → k * p + p ≤ size
row_within k n p size h e =
    let g : suc k * p ≤ n * p = mul-le-mul_right p h in
    omega (arith, suc-mul k p, g, e)

pub row_is : (k p : ℕ) (pixels : List ℕ) → take (k * p + p - k * p) (drop (k * p) pixels) ≡ take p (drop (k * p) pixels)
row_is k p pixels = let e : k * p + p - k * p ≡ p = omega arith in ap (λ (n : ℕ). take n (drop (k * p) pixels)) e

-- a part of a buffer is replaced: the one that comes after what is done
pub replace_part : (done part old : List ℕ) (a e : ℕ) → length done ≡ a → e ≡ a + length part → e ≤ length old
    → put_mid a (e - a) (done ++ drop a old) part ≡ (done ++ part) ++ drop e old
replace_part done part old a e l g h =
    let i : a ≤ e = omega arith in
    let n : length done + (e - a) ≡ e = omega arith in
    let m : a + (e - a) ≡ e = omega arith in
    let post : post_of a (e - a) (done ++ drop a old) ≡ drop e old =
    Post-is a e (done ++ drop a old) i
    ∙ ap (λ (j : ℕ). drop j (done ++ drop a old)) (sym n)
    ∙ drop-append-add done (drop a old) (e - a)
    ∙ drop-drop (e - a) a old
    ∙ ap (λ (j : ℕ). drop j old) m in
    rw (post, take_at done (drop a old) a l) (sym (append_assoc done part (drop e old)))

pub store_next : (done old : List ℕ) (k v : ℕ) → length done ≡ k → k < length old
    → set (done ++ drop k old) k v ≡ (done ++ (v ∷ [])) ++ drop (suc k) old
store_next done old k v l h =
    rw (drop-cons old k 0 h, set_at done (get_or old k 0) (drop (suc k) old) v k l) (sym (append_assoc done (v ∷ []) (drop (suc k) old)))

-- all that is left of a list from a byte on
pub rest_is : (f : List ℕ) (at : ℕ) → take (length f - at) (drop at f) ≡ drop at f
rest_is f at = take_all (length f - at) (drop at f) (omega (arith, length-drop at f))
