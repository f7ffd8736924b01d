-- Laws of the writer's call: its number, the written length, and the output.
use Rattle.std.specs.Prelude.{◌≡◌, ℕ, ◌≤◌, List, ◌++◌, length, take, ◌≢◌}
use Rattle.std.proofs.Common.{sym, ◌∙◌, eq-eqb, ltb-false}
use Rattle.units.proofs.Laws.Rules.{NoneHolds, none_holds, both_none, first_from}
use Rattle.encode_header.specs.Picture.{Picture}
use Rattle.encode_answer.specs.Sizes.{WriteNumbers}
use Rattle.encode_answer.proofs.Laws.Call as call
use Rattle.encode_raster.specs.File.{file_bytes}
use Rattle.encode_raster.specs.Writing.{given_rules, picture_rules, writer_rejection, writing, out_after}

-- a picture that is not rejected: its file is not too long, fits the output, and is what the output begins with
none : (i : Picture) (room : ℕ) → writer_rejection i room ≡ 0 → NoneHolds (picture_rules i room)
unfolding writer_rejection
none i room e = none_holds (picture_rules i room) tt (both_none (given_rules i) (picture_rules i room) tt e).1

most : (i : Picture) (room : ℕ) → writer_rejection i room ≡ 0 → length (file_bytes i) ≤ 2147483647
most i room e = ltb-false 2147483647 (length (file_bytes i)) (none i room e).1.1.0

fits : (i : Picture) (room : ℕ) → writer_rejection i room ≡ 0 → length (file_bytes i) ≤ room
fits i room e = ltb-false room (length (file_bytes i)) (none i room e).1.1.1.0

pub writes : (i : Picture) (room : ℕ) → writer_rejection i room ≡ 0 → writing i room ≡ record { number = 0; size = length (file_bytes i) }
unfolding writing
writes i room ok = rw (eq-eqb (writer_rejection i room) 0 ok)

pub begins : (i : Picture) (out : List ℕ) → writer_rejection i (length out) ≡ 0 → (n : ℕ) (out' : List ℕ) → n ≡ length (file_bytes i)
    → out' ≡ out_after i out → take n out' ≡ file_bytes i
unfolding out_after
begins i out ok = call.begins (writer_rejection i (length out)) (file_bytes i) out ok

-- the number that the writer answered is that of its rejection, which is 10 or above
pub number_is : (i : Picture) (room : ℕ) (w : WriteNumbers) → w ≡ writing i room → w.number ≡ writer_rejection i room
unfolding writing
number_is i room w e = call.number_is (writer_rejection i room) (file_bytes i) (file_bytes i) w e

rejected_from : (i : Picture) (room : ℕ) → (writer_rejection i room ≢ 0) → 10 ≤ writer_rejection i room
unfolding writer_rejection
rejected_from i room h = first_from 10 (given_rules i ++ picture_rules i room) tt h

pub number-from : (i : Picture) (room : ℕ) (w : WriteNumbers) → w ≡ writing i room → (w.number ≢ 0) → 10 ≤ w.number
number-from i room w e h = let s = number_is i room w e in rw s (rejected_from i room (λ z. h (s ∙ z)))

-- the written length
module _ (i : Picture) (room : ℕ) (w : WriteNumbers) (e : w ≡ writing i room) (z : w.number ≡ 0) where
  ok : writer_rejection i room ≡ 0
  ok = sym (number_is i room w e) ∙ z

  size_is : w.size ≡ length (file_bytes i)
  unfolding writing
  size_is = call.size_is (writer_rejection i room) (file_bytes i) (file_bytes i) w e z

  pub size_fits : w.size ≤ room
  size_fits = rw size_is (fits i room ok)

  pub size_most : w.size ≤ 2147483647
  size_most = rw size_is (most i room ok)

-- the writer keeps the output's length
pub length_after : (i : Picture) (out : List ℕ) → length (out_after i out) ≡ length out
unfolding out_after
length_after i out = call.length_out (writer_rejection i (length out)) (file_bytes i) out (fits i (length out))
