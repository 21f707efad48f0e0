-- Box (01): minimum and maximum over the complete vertex triples, f32.
use Rattle.std.specs.Prelude.{ℕ, zero, suc, true, false, List, [], ◌∷◌, Float}
use Rattle.std.specs.Float.{inf}
use Rattle.ieee.specs.Order.{least, greatest}
use Rattle.ieee.specs.Single.{◌⊗◌, extent}
use Rattle.vertices.specs.Vertices.{vertex_count, coordinate}
use Rattle.sums.specs.declared.bounds.Bounds.{Bounds}

-- the least and the greatest coordinate on an axis of the first n vertices; ∞ and -∞ of none
unfoldable pub lowest : List Float → ℕ → ℕ → Float
lowest vs axis zero = inf false
lowest vs axis (suc n) = least (lowest vs axis n) (coordinate vs axis n)

unfoldable pub highest : List Float → ℕ → ℕ → Float
highest vs axis zero = inf true
highest vs axis (suc n) = greatest (highest vs axis n) (coordinate vs axis n)

unfoldable pub box_to : List Float → ℕ → Bounds
box_to vs n =
    record {
      xmin = lowest vs 0 n;
      ymin = lowest vs 1 n;
      zmin = lowest vs 2 n;
      xmax = highest vs 0 n;
      ymax = highest vs 1 n;
      zmax = highest vs 2 n;
    }

abbrev pub box : List Float → Bounds
box vs = box_to vs (vertex_count vs)

-- by which the corners are rebased: its minimum
abbrev pub origin : Bounds → List Float
origin b = b.xmin ∷ b.ymin ∷ b.zmin ∷ []

-- the box volume: the product of the three differences, times u³
unfoldable pub box_volume : Bounds → Float → Float
box_volume b cube = extent b.xmin b.xmax ⊗ extent b.ymin b.ymax ⊗ extent b.zmin b.zmax ⊗ cube
