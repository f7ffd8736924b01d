-- A reading that is not rejected: its number of good scanlines.
use Rattle.std.specs.Prelude.{ℕ, zero, suc, ◌+◌, ◌≡◌, refl, List, [], ◌∷◌, ◌++◌, drop}
use Rattle.std.proofs.Common.{arith, take_at}
use Rattle.layout.specs.Chain.{Raster, sheet_of, reading_at, statuses, good_count}
use Rattle.layout.specs.Reading.{raster_reading, marks_after, count_good, GoodCounted}
use Rattle.layout.proofs.Laws.Chain.{length-statuses}

count_append : (a b : List ℕ) → count_good (a ++ b) ≡ count_good a + count_good b
unfolding count_good
count_append [] b = omega arith
count_append (s ∷ a) b = omega (arith, count_append a b)

pub counted : (r : Raster) (k : ℕ) → good_count r k ≡ count_good (statuses r k)
unfolding good_count statuses count_good
counted r zero = refl
counted r (suc k) = omega (arith, counted r k, count_append (statuses r k) ((reading_at r k).status ∷ []))

pub good_counted : GoodCounted
unfolding raster_reading marks_after
good_counted f pixels marks taken =
    let r = sheet_of f in
    rw (taken, take_at (statuses r r.nol) (drop r.nol marks) r.nol (length-statuses r r.nol)) (counted r r.nol)
