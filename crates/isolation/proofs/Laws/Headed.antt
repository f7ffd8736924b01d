-- One scanline with a header: whether it is lost and how many bytes it uses are settled by its header's bytes and by how
-- many bytes follow. Its body lies between its header and the next scanline.
use Rattle.std.specs.Prelude.{ℕ, ◌+◌, ◌≤◌, ◌≡◌, refl, Bool, true, false, cond, List, [], length, take, drop, eqb}
use Rattle.std.proofs.Common.{arith, length-take, length-drop, eqb-true, ltb-false}
use Rattle.std.proofs.lemmas.Bool.{not-false}
use Rattle.units.specs.Rules.{first}
use Rattle.units.proofs.Laws.Rules.{none_holds}
use Rattle.layout.specs.Scanline.{head_of, body_of, following, body_size, head_rules, lost_rules, is_lost, headed_step}

-- the bytes between a scanline's start and the next one's
abbrev pub used_of : List ℕ → ℕ
used_of rest = (headed_step rest).used.0

pub same_body-length : (a b : List ℕ) → head_of a ≡ head_of b → length a ≡ length b → length (body_of a) ≡ length (body_of b)
unfolding body_of
same_body-length a b h e = rw h (go (eqb (first (head_rules (head_of b))) 0))
  where
    go : (t : Bool)
        → length (cond t (take (body_size (head_of b)).0 (drop 8 a)) []) ≡ length (cond t (take (body_size (head_of b)).0 (drop 8 b)) [])
    go true = simp (length-take, length-drop, e)
    go false = refl

pub same_lost : (a b : List ℕ) → head_of a ≡ head_of b → length a ≡ length b → is_lost a ≡ is_lost b
unfolding is_lost
same_lost a b h e = rw (same_body-length a b h e, h)

pub same_used : (a b : List ℕ) → head_of a ≡ head_of b → length a ≡ length b → used_of a ≡ used_of b
same_used a b h e = rw (same_lost a b h e, h)

body_within : (rest : List ℕ) → length (body_of rest) ≤ (body_size (head_of rest)).0
unfolding body_of
body_within rest = go (eqb (first (head_rules (head_of rest))) 0)
  where
    go : (t : Bool) → length (cond t (take (body_size (head_of rest)).0 (drop 8 rest)) []) ≤ (body_size (head_of rest)).0
    go true = omega (arith, length-take (body_size (head_of rest)).0 (drop 8 rest))
    go false = omega arith

pub used_body : (rest : List ℕ) → is_lost rest ≡ false → 8 + length (body_of rest) ≤ used_of rest
unfolding is_lost
used_body rest t =
    let z : first (lost_rules (head_of rest) (body_of rest)) ≡ 0 =
    eqb-true (first (lost_rules (head_of rest) (body_of rest))) 0
    (not-false (eqb (first (lost_rules (head_of rest) (body_of rest))) 0) t) in
    let n = none_holds (lost_rules (head_of rest) (body_of rest)) tt z in
    let w : 2 ≤ (following (head_of rest)).0 = ltb-false (following (head_of rest)).0 2 n.1.1.0 in
    rw t (omega (arith, body_within rest))
