-- One whole call each way, as the promises of `turn` and `turn_back` have it, and what comes back of two.
use Rattle.std.specs.Prelude.{ℕ, ◌*◌, ◌≡◌, List, ◌++◌, length, take, drop}
use Rattle.orient.specs.Turning.{turn_rejection, upright_after, pixels_after}

pub record TurnCall (slo ppl nol : ℕ) (pixels upright : List ℕ) (number : ℕ) (upright' : List ℕ) : Type 0 where
  pub answer : number ≡ turn_rejection slo ppl nol (length pixels) (length upright)
  pub upright_is : upright' ≡ upright_after slo ppl nol pixels upright

pub record TurnBackCall (slo ppl nol : ℕ) (upright pixels : List ℕ) (number : ℕ) (pixels' : List ℕ) : Type 0 where
  pub answer : number ≡ turn_rejection slo ppl nol (length upright) (length pixels)
  pub pixels_are : pixels' ≡ pixels_after slo ppl nol upright pixels

-- The second call is not rejected, and its buffer holds the PPL x NOL pixels that the first one was given and then what was there.
pub record ComesBack (ppl nol : ℕ) (given again : List ℕ) (number : ℕ) (again' : List ℕ) : Type 0 where
  pub taken : number ≡ 0
  pub same : again' ≡ take (nol * ppl) given ++ drop (nol * ppl) again
