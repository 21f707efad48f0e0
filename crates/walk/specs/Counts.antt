-- Left out (02, A1): how many triangles of a mesh are used, how many have an id out of range and how many are slivers, each counted by a
-- question of its own. Out of range is asked first: the other two are of triangles in range, with corners rebased by o.
use Rattle.std.specs.Prelude.{ℕ, Bool, not, ◌&&◌, List, [], ◌∷◌, Float}
use Rattle.std.specs.Float.Ieee.{lt, le}
use Rattle.ids.specs.Triangles.{Triangle, over_triangles}
use Rattle.ids.specs.Uses.{bit, sum_by}
use Rattle.vertices.specs.Vertices.{corners_in_range}
use Rattle.sums.specs.Facet.{normal, rebased_corners, shortest, size}
use Rattle.walk.specs.declared.TriangleCounts.{TriangleCounts}

-- ---- three questions of a triangle

-- some id is out of range
unfoldable pub is_out_of_range : List Float → Triangle → Bool
is_out_of_range vs t = not (corners_in_range vs t)

-- the length of its cross product
abbrev pub cross_length : List Float → List Float → Triangle → Float
cross_length vs o t = size (normal (rebased_corners vs o t))

-- in range, and that is under 1e-12
unfoldable pub is_sliver : List Float → List Float → Triangle → Bool
is_sliver vs o t = corners_in_range vs t && lt (cross_length vs o t) shortest

-- in range, and that is 1e-12 or more
unfoldable pub is_used : List Float → List Float → Triangle → Bool
is_used vs o t = corners_in_range vs t && le shortest (cross_length vs o t)

-- ---- the three counts

-- how many complete triples pass a test
unfoldable pub how_many : (Triangle → Bool) → List ℕ → ℕ
how_many test ids = sum_by (λ t. bit (test t)) (over_triangles (λ t. t ∷ []) ids)

unfoldable pub counts_of : List Float → List Float → List ℕ → TriangleCounts
counts_of vs o ids =
    record {
      used = how_many (is_used vs o) ids;
      out_of_range = how_many (is_out_of_range vs) ids;
      sliver = how_many (is_sliver vs o) ids;
    }
