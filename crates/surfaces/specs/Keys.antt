-- Which keys a list of buckets has, and the area of each: in these words the rows' worth is said.
use Rattle.std.specs.Prelude.{◌≡◌, Bool, false, cond, ◌||◌, List, [], ◌∷◌, Float}
use Rattle.ieee.specs.Single.{nought}
use Rattle.surfaces.specs.declared.Key.{Key}
use Rattle.surfaces.specs.Surfaces.{Bucket, same_key}

-- the area of a key: 0 where it has none
unfoldable pub area_for : Key → List Bucket → Float
area_for k [] = nought
area_for k (b ∷ bs) = cond (same_key k b.key) b.area (area_for k bs)

-- is k one of them?
unfoldable pub has_key : Key → List Bucket → Bool
has_key k [] = false
has_key k (b ∷ bs) = same_key k b.key || has_key k bs

-- no two buckets have one key
unfoldable pub Apart : List Bucket → Type 0
Apart [] = Unit {0}
Apart (b ∷ bs) = (has_key b.key bs ≡ false) × Apart bs

-- every area has the property P
unfoldable pub AllAreas : (Float → Type 0) → List Bucket → Type 0
AllAreas P [] = Unit {0}
AllAreas P (b ∷ bs) = P b.area × AllAreas P bs
