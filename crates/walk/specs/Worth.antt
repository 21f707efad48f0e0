-- What the buckets are worth: each key's area is the sum of its triangles' areas, and the keys are those of some triangle. (`buckets_sums`,
-- `buckets_keys`)
use Rattle.std.specs.Prelude.{Bool, false, ◌||◌, cond, List, ℕ, zero, suc, Float}
use Rattle.ieee.specs.Single.{◌⊕◌, nought}
use Rattle.ids.specs.Triangles.{triangle}
use Rattle.sums.specs.Facet.{Part, out_of_range, sliver, used, part}
use Rattle.surfaces.specs.declared.Key.{Key}
use Rattle.surfaces.specs.Surfaces.{normal_key, same_key}

unfoldable pub sum_with : Key → Float → Part → Float
sum_with k s out_of_range = s
sum_with k s sliver = s
sum_with k s (used f) = cond (same_key k (normal_key f.nx f.ny f.nz)) (s ⊕ f.area32) s

-- the areas with key k among the first n triangles
unfoldable pub sum_for : List Float → List Float → List ℕ → Key → ℕ → Float
sum_for vs o ids k zero = nought
sum_for vs o ids k (suc n) = sum_with k (sum_for vs o ids k n) (part vs o (triangle ids n))

unfoldable pub has_part : Key → Part → Bool
has_part k out_of_range = false
has_part k sliver = false
has_part k (used f) = same_key k (normal_key f.nx f.ny f.nz)

-- whether one of them has key k
unfoldable pub key_among : List Float → List Float → List ℕ → Key → ℕ → Bool
key_among vs o ids k zero = false
key_among vs o ids k (suc n) = has_part k (part vs o (triangle ids n)) || key_among vs o ids k n
