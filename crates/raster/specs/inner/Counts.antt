-- What counting the bytes of a raster gives.
use Rattle.std.specs.Prelude.{◌≡◌, ℕ, List, length, nat_eq, nat_lt, slice_index}
use Rattle.raster.specs.declared.Pair.{Pair}
use Rattle.raster.specs.Footprint.{count}

-- those above 0, and those that are 1
pub record Counts (t : List ℕ) (r : Pair) : Type 0 where
  pub covered_is : r.covered ≡ count (λ k. nat_lt 0 (slice_index t k)) (length t)
  pub rim_is : r.rim ≡ count (λ k. nat_eq (slice_index t k) 1) (length t)
