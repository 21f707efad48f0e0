-- The glove (02, A9): keys negated.
use Rattle.std.specs.Prelude.{List, [], ◌∷◌, neg_ℤ}
use Rattle.surfaces.specs.declared.Key.{Key}
use Rattle.surfaces.specs.Surfaces.{Bucket}

abbrev pub opposite_key : Key → Key
opposite_key k = record { x = neg_ℤ k.x; y = neg_ℤ k.y; z = neg_ℤ k.z }

-- each area stays with its key
unfoldable pub opposite_buckets : List Bucket → List Bucket
opposite_buckets [] = []
opposite_buckets (b ∷ bs) = record { key = opposite_key b.key; area = b.area } ∷ opposite_buckets bs
