-- One scanline that is not lost is settled by the bytes that it uses: its step and its reading are the same whatever follows them.
use Rattle.std.specs.Prelude.{ℕ, ◌+◌, ◌≤◌, ◌≡◌, Bool, take, drop, eqb}
use Rattle.std.proofs.Math.Path.{refl}
use Rattle.std.proofs.Common.{sym, ◌∙◌, ap, arith, take-append-drop}
use Rattle.std.proofs.Math.Bool.{true, false, cond}
use Rattle.std.proofs.lemmas.Bool.{false≢true}
use mathlib.Core.List.{List, [], ◌++◌}
use Rattle.std.proofs.Math.ListN.{length}
use Rattle.units.specs.Counts.{bytes_of_words}
use Rattle.units.specs.Rules.{first}
use Rattle.codec.specs.Extent.{Extent}
use Rattle.codec.specs.Table.{body_extent}
use Rattle.codec.proofs.Laws.Lawful.{lawful}
use Rattle.layout.specs.Scanline.{head_of, body_of, following, body_size, head_rules, is_lost, headed_step, open_step, step_of, headed_reading, open_reading, reading_of}
use Rattle.layout.proofs.Laws.Line.{NotLost, kept}
use Rattle.trailing.proofs.Laws.Front.{front_long, front_less, front_part}

-- without a header: what is taken, by the law of the codecs
pub same_extent : (t p : ℕ) (a b : List ℕ) → (body_extent t a p).lost ≡ false
    → take (body_extent t a p).used.0 b ≡ take (body_extent t a p).used.0 a → body_extent t b p ≡ body_extent t a p
same_extent t p a b h same =
    let s = (lawful t).settled a p (λ e. false≢true (sym h ∙ ap (λ (x : Extent). x.lost) e)) in
    let front : take s.size b ≡ take s.size a = rw (s.all_taken h) at same in
    ap (λ (l : List ℕ). body_extent t l p)
    (sym (take-append-drop s.size b) ∙ ap (λ (l : List ℕ). l ++ drop s.size b) front)
    ∙ s.alike (drop s.size b)

-- two lists of bytes that begin with the same scanline
pub record SameScanline (scn t p : ℕ) (a b : List ℕ) : Type 0 where
  pub step : step_of scn t p b ≡ step_of scn t p a
  pub reading : (number : ℕ) → reading_of scn t p number b ≡ reading_of scn t p number a
  pub head : scn ≡ 1 → head_of b ≡ head_of a

-- with a header: the bytes of a scanline that is not lost, its header and its body
abbrev size : List ℕ → ℕ
size a = 4 + (bytes_of_words (following (head_of a))).0

module _ (a b : List ℕ) (k : NotLost a) (same : take (size a) b ≡ take (size a) a) where
  same_head : head_of b ≡ head_of a
  unfolding head_of
  same_head = front_less b a (size a) same 8 (omega (arith, k.size))

  same_body : body_of b ≡ body_of a
  unfolding body_of
  same_body = rw same_head (go (eqb (first (head_rules (head_of a))) 0))
    where
      go : (t : Bool) → cond t (take (body_size (head_of a)).0 (drop 8 b)) [] ≡ cond t (take (body_size (head_of a)).0 (drop 8 a)) []
      go true =
          let l : 8 ≤ length b = omega (arith, k.size, front_long b a (size a) same k.within) in
          front_part b a (size a) same 8 (body_size (head_of a)).0 l k.whole (omega (arith, k.words))
      go false = refl

  same_lost : is_lost b ≡ is_lost a
  unfolding is_lost
  same_lost = rw (same_body, same_head)

  same_headed : (t p number : ℕ) → (headed_step b ≡ headed_step a) × (headed_reading t p number b ≡ headed_reading t p number a)
  same_headed t p number = (rw (same_lost, same_head), rw (same_body, same_head))

-- without
same_open : (t p : ℕ) (a b : List ℕ) → (body_extent t a p).lost ≡ false
    → take (body_extent t a p).used.0 b ≡ take (body_extent t a p).used.0 a
    → (open_step t p b ≡ open_step t p a) × (open_reading t p b ≡ open_reading t p a)
same_open t p a b h same =
    let e = same_extent t p a b h same in
    (rw e, rw (e, same))

-- by SCN
pub same_scanline : (scn t p : ℕ) (a b : List ℕ) → (step_of scn t p a).lost ≡ false
    → take (step_of scn t p a).used.0 b ≡ take (step_of scn t p a).used.0 a → SameScanline scn t p a b
same_scanline scn t p a b h same =
    record {
      step = (go (eqb scn 1) 0 h same).0;
      reading = λ number. (go (eqb scn 1) number h same).1;
      head = λ one. there (rw one at h) (rw one at same);
    }
  where
    there : (headed_step a).lost ≡ false → take (headed_step a).used.0 b ≡ take (headed_step a).used.0 a → head_of b ≡ head_of a
    there l e = same_head a b (kept a l) (rw l at e)

    go : (s : Bool) (number : ℕ) → (cond s (headed_step a) (open_step t p a)).lost ≡ false
        → take (cond s (headed_step a) (open_step t p a)).used.0 b ≡ take (cond s (headed_step a) (open_step t p a)).used.0 a
        → (cond s (headed_step b) (open_step t p b) ≡ cond s (headed_step a) (open_step t p a))
        × (cond s (headed_reading t p number b) (open_reading t p b) ≡ cond s (headed_reading t p number a) (open_reading t p a))
    go true number l e = same_headed a b (kept a l) (rw l at e) t p number
    go false number l e = same_open t p a b l (rw l at e)
