-- A word put at a byte of a list: what stands there then, elsewhere, and where it stood before.
use Rattle.std.specs.Prelude.{ℕ, suc, ◌+◌, ◌/◌, ◌%◌, ◌≤◌, ◌<◌, ◌≡◌, List, length, get_or, set}
use Rattle.std.proofs.Common.{◌∙◌, ap, add-one, arith, length-set, set-set, get_or-set_same, get_or-set_other}
use Rattle.std.proofs.lemmas.List.Edits.{sets}
use Rattle.std.proofs.lemmas.List.{set_comm, set-get_or}
use Rattle.units.specs.LittleEndian.{u16_at}
use Rattle.units.specs.Words.{two_bytes}

pub word_there : (l : List ℕ) (i w : ℕ) → i + 2 ≤ length l → u16_at (sets l i (two_bytes w)) i ≡ w
unfolding u16_at
word_there l i w h =
    let low = set l i (w % 256) in
    rw (
      add-one i,
      get_or-set_same low (suc i) (w / 256) 0 (omega (arith, length-set l i (w % 256))),
      get_or-set_other low (suc i) i (w / 256) 0 (λ e. omega arith),
      get_or-set_same l i (w % 256) 0 (omega arith),
    )
    (omega arith)

pub word_again : (l : List ℕ) (i v w : ℕ) → sets (sets l i (two_bytes v)) i (two_bytes w) ≡ sets l i (two_bytes w)
word_again l i v w =
    ap (λ (x : List ℕ). set x (suc i) (w / 256))
    (set_comm (set l i (v % 256)) (suc i) i (v / 256) (w % 256) (λ e. omega arith)
    ∙ ap (λ (x : List ℕ). set x (suc i) (v / 256)) (set-set l i (v % 256) (w % 256)))
    ∙ set-set (set l i (w % 256)) (suc i) (v / 256) (w / 256)

pub word_same : (l : List ℕ) (i w : ℕ) → w ≡ u16_at l i → ((j : ℕ) → get_or l j 0 < 256) → sets l i (two_bytes w) ≡ l
unfolding u16_at
word_same l i w e below =
    let a = below i in
    let b = below (i + 1) in
    let low : w % 256 ≡ get_or l i 0 = omega arith in
    let high : w / 256 ≡ get_or l (suc i) 0 = omega arith ∙ ap (λ (j : ℕ). get_or l j 0) (add-one i) in
    rw (low, high, set-get_or l i 0) (set-get_or l (suc i) 0)
