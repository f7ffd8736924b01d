-- Tables of a function, read one by one; and tables that are read at other places, and read again where those lead back.
use Rattle.std.specs.Prelude.{ℕ, zero, suc, ◌+◌, ◌≤◌, ◌<◌, ◌≡◌, refl, List, ◌∷◌, ◌++◌, length, get_or, take}
use Rattle.std.proofs.Common.{sym, ◌∙◌, ap, zero-add, suc-add, arith, ext_get_or, get_or-take, length-take-le}
use Rattle.std.proofs.Math.Path.{subst⁻¹}
use Rattle.std.proofs.Math.ListN.{get_or-append}
use Rattle.moves.specs.Tabulate.{tabulate}

pub length-tabulate : (n : ℕ) (f : ℕ → ℕ) → length (tabulate n f) ≡ n
unfolding tabulate
length-tabulate zero f = refl
length-tabulate (suc n) f = ap suc (length-tabulate n (λ i. f (suc i)))

pub get_or-tabulate : (n : ℕ) (f : ℕ → ℕ) (i : ℕ) → i < n → get_or (tabulate n f) i 0 ≡ f i
unfolding tabulate
get_or-tabulate zero f i h = absurd (omega arith)
get_or-tabulate (suc n) f zero h = refl
get_or-tabulate (suc n) f (suc i) h = get_or-tabulate n (λ i. f (suc i)) i (omega arith)

-- a list is the table of a function that gives its elements, and two functions that agree have one table
pub is_tabulate : (xs : List ℕ) (n : ℕ) (f : ℕ → ℕ) → length xs ≡ n → ((i : ℕ) → i < n → get_or xs i 0 ≡ f i) → xs ≡ tabulate n f
is_tabulate xs n f l e =
    ext_get_or 0 xs (tabulate n f) (l ∙ sym (length-tabulate n f))
    (λ i h. let g : i < n = omega arith in e i g ∙ sym (get_or-tabulate n f i g))

pub same_table : (n : ℕ) (f g : ℕ → ℕ) → ((i : ℕ) → i < n → f i ≡ g i) → tabulate n f ≡ tabulate n g
same_table n f g e = is_tabulate (tabulate n f) n g (length-tabulate n f) (λ i h. get_or-tabulate n f i h ∙ e i h)

pub tabulate-append : (a b : ℕ) (f : ℕ → ℕ) → tabulate (a + b) f ≡ tabulate a f ++ tabulate b (λ i. f (a + i))
unfolding tabulate
tabulate-append zero b f = rw (zero-add b) (same_table b f (λ i. f (0 + i)) (λ i h. ap f (sym (zero-add i))))
tabulate-append (suc a) b f =
    rw (suc-add a b)
    (ap (λ (l : List ℕ). f zero ∷ l)
    (tabulate-append a b (λ i. f (suc i))
    ∙ ap (λ (l : List ℕ). tabulate a (λ i. f (suc i)) ++ l)
    (same_table b (λ i. f (suc (a + i))) (λ i. f (suc a + i)) (λ i h. ap f (sym (suc-add a i))))))

-- a table that is read at other places, and read again where those places lead back
pub read_back : (m : ℕ) (f g : ℕ → ℕ) → ((j : ℕ) → j < m → f j < m) → ((j : ℕ) → j < m → g (f j) ≡ j)
    → (xs rest : List ℕ) → m ≤ length xs → tabulate m (λ j. get_or (tabulate m (λ q. get_or xs (g q) 0) ++ rest) (f j) 0) ≡ take m xs
read_back m f g within back xs rest l =
    let table = tabulate m (λ q. get_or xs (g q) 0) in
    sym
    (is_tabulate (take m xs) m (λ j. get_or (table ++ rest) (f j) 0) (length-take-le m xs l)
    (λ j h. get_or-take m xs j 0 h
    ∙ sym
    (get_or-append table rest 0 (f j) (subst⁻¹ (λ (k : ℕ). f j < k) (length-tabulate m (λ q. get_or xs (g q) 0)) (within j h))
    ∙ get_or-tabulate m (λ q. get_or xs (g q) 0) (f j) (within j h)
    ∙ ap (λ (i : ℕ). get_or xs i 0) (back j h))))
