-- What holds of every codec of the table holds of a data type's.
use Rattle.std.specs.Prelude.{ℕ, ◌≤◌, ◌≡◌, refl, Bool, true, false, cond, ◌||◌, List, [], ◌∷◌, eqb}
use Rattle.std.proofs.Common.{sym, arith, eqb-true, ne_eqb}
use Rattle.std.proofs.lemmas.Bool.{false≢true}
use Rattle.codec.specs.Codec.{Codec}
use Rattle.codec.specs.Table.{codecs, no_codec, find, has, codec_of, is_data_type}

abbrev pub All : (Codec → Type 0) → List Codec → Type 0
All P [] = Unit {0}
All P (c ∷ cs) = P c × All P cs

-- of any data type, if it holds where there is none
either : (P : Codec → Type 0) (c d : Codec) (b : Bool) → P c → P d → P (cond b c d)
either P c d true p q = p
either P c d false p q = q

found : (P : Codec → Type 0) (cs : List Codec) (t : ℕ) → All P cs → P no_codec → P (find cs t)
found P [] t all none = none
found P (c ∷ cs) t all none = either P c (find cs t) (eqb t c.data_type) all.0 (found P cs t all.1 none)

pub every : (P : Codec → Type 0) (t : ℕ) → All P codecs → P no_codec → P (codec_of t)
unfolding codec_of
every P t all none = found P codecs t all none

-- of a data type that the table has
one_of : (P : Codec → Type 0) (c d : Codec) (b h : Bool) → (b || h) ≡ true → P c → (h ≡ true → P d) → P (cond b c d)
one_of P c d true h e p q = p
one_of P c d false h e p q = q e

had : (P : Codec → Type 0) (cs : List Codec) (t : ℕ) → has cs t ≡ true → All P cs → P (find cs t)
had P [] t h all = absurd (false≢true h)
had P (c ∷ cs) t h all =
    one_of P c (find cs t) (eqb t c.data_type) (has cs t) h all.0 (λ e. had P cs t e all.1)

pub known : (P : Codec → Type 0) (t : ℕ) → is_data_type t ≡ true → All P codecs → P (codec_of t)
unfolding codec_of is_data_type
known P t h all = had P codecs t h all

-- its codec is its own
own_type : (cs : List Codec) (t : ℕ) → has cs t ≡ true → (find cs t).data_type ≡ t
own_type [] t h = absurd (false≢true h)
own_type (c ∷ cs) t h = go (eqb t c.data_type) refl h (own_type cs t)
  where
    go : (b : Bool) → eqb t c.data_type ≡ b → (b || has cs t) ≡ true → (has cs t ≡ true → (find cs t).data_type ≡ t)
        → (cond b c (find cs t)).data_type ≡ t
    go true e k ih = sym (eqb-true t c.data_type e)
    go false e k ih = ih k

pub type_most : (t : ℕ) → is_data_type t ≡ true → t ≤ 10
unfolding codec_of is_data_type
type_most t h =
    omega (
      arith,
      own_type codecs t h,
      had (λ c. c.data_type ≤ 10) codecs t h (omega arith, (omega arith, (omega arith, (omega arith, (omega arith, tt))))),
    )

-- of a data type that the table does not have, as a `match` that tests each of its types leaves it
abbrev pub Unknown : ℕ → Type 0
Unknown t = ((((Unit {0} × (t ≡ 1 → ⊥)) × (t ≡ 2 → ⊥)) × (t ≡ 3 → ⊥)) × (t ≡ 9 → ⊥)) × (t ≡ 10 → ⊥)

pub no_codec_lem : {t : ℕ} → Unknown t → codec_of t ≡ no_codec
unfolding codec_of
no_codec_lem {t} n =
    rw (ne_eqb t 1 n.0.0.0.0.1, ne_eqb t 2 n.0.0.0.1, ne_eqb t 3 n.0.0.1, ne_eqb t 9 n.0.1, ne_eqb t 10 n.1)
