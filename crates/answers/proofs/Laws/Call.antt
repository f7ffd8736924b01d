-- What a call answers, and what its answer slice holds then, in each of its cases.
use Rattle.std.specs.Prelude.{ℕ, ◌≤◌, ◌<◌, ◌≡◌, refl, List, length}
use Rattle.std.proofs.Common.{lt-ltb, le-ltb, le-leb}
use Rattle.std.proofs.lemmas.Bool.{lt-leb}
use Rattle.units.specs.Over.{over}
use Rattle.answers.specs.Answer.{Call, number_bytes, result_of, answer_after, unless_short}

-- the result, and the slice afterwards
abbrev pub Answered : ℕ → Call → List ℕ → ℕ → List ℕ → Type 0
Answered size c answer r now = (r ≡ result_of size c answer) × (now ≡ answer_after size c answer)

module _ (size : ℕ) (c : Call) (answer : List ℕ) where
  pub too_short : length answer < size → Answered size c answer 29 answer
  too_short h = rw (lt-ltb (length answer) size h) (refl, refl)

  module _ (enough : size ≤ length answer) {r : ℕ} (result : r ≡ c.result) where
    pub rejected : 10 ≤ r → Answered size c answer r answer
    rejected h = rw (le-ltb (length answer) size enough, ← result, le-leb 10 r h) (refl, refl)

    pub stored : r < 10 → {now : List ℕ} → now ≡ over (number_bytes c.numbers) answer → Answered size c answer r now
    stored h e = rw (le-ltb (length answer) size enough, ← result, lt-leb 10 r h) (refl, e)

-- another buffer
module _ (size : ℕ) (answer old new : List ℕ) where
  pub kept_if_short : length answer < size → old ≡ unless_short size answer old new
  kept_if_short h = rw (lt-ltb (length answer) size h)

  pub changed_if_long : size ≤ length answer → {now : List ℕ} → now ≡ new → now ≡ unless_short size answer old new
  changed_if_long h e = rw (le-ltb (length answer) size h) e
