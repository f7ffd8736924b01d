-- Text put into fixed memory, behind the text that is there.
use Rattle.std.specs.Prelude.{ℕ, ◌≡◌, Bool, cond, List, ◌++◌, length, drop, ltb, codes}
use Rattle.io.specs.Digits.{last_digits, IsDigitCount}

-- the text that was put, and the bytes behind it
pub record Contents : Type 0 where
  pub text : List ℕ
  pub behind : List ℕ

-- the piece does not fit
abbrev pub too_long : Contents → List ℕ → Bool
too_long t piece = ltb (length t.behind) (length piece)

-- the piece stands behind the text, and what lies behind the piece stays
abbrev pub put_at : Contents → List ℕ → Contents
put_at t piece = cond (too_long t piece) t (record { text = t.text ++ piece; behind = drop (length piece) t.behind })

-- the decimal digits of n were put: k of them, the fewest that hold n
pub record DecimalPut (t : Contents) (n : ℕ) (t' : Contents) : Type 0 where
  pub k : ℕ
  pub fewest : IsDigitCount 10 1 n k
  pub put_is : t' ≡ put_at t (last_digits 10 k n)

-- the line of a rejection was put, with its number n
pub record RejectionPut (t : Contents) (n : ℕ) (t' : Contents) : Type 0 where
  pub before_end : Contents
  pub number_put : DecimalPut (put_at t (codes "refused ")) n before_end
  pub end_put : t' ≡ put_at before_end (codes "\n")
