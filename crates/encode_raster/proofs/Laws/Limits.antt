-- A pixel above the highest.
use Rattle.std.specs.Prelude.{◌≡◌, ℕ, ◌+◌, ◌<◌, ◌≤◌, Bool, true, false, ◌||◌, List, length, drop, nat_lt, slice_index}
use Rattle.std.proofs.Math.Path.{refl}
use Rattle.std.proofs.Common.{add-one, drop_of_length-le}
use Rattle.std.proofs.Math.Seq.{drop-cons}
use Rattle.encode_raster.specs.Writing.{any_above}

-- the pixels from i on, after those before it
module _ (m : ℕ) (l : List ℕ) (i : ℕ) where
  pub above_next : (found : Bool) → i < length l
      → ((found || nat_lt m (slice_index l i)) || any_above m (drop (i + 1) l)) ≡ (found || any_above m (drop i l))
  unfolding any_above
  above_next true h = refl
  above_next false h = rw (add-one i, drop-cons l i 0 h)

  pub above_end : (found : Bool) → length l ≤ i → (found || any_above m (drop i l)) ≡ found
  unfolding any_above
  above_end true h = refl
  above_end false h = rw (drop_of_length-le l {i = i} h)
