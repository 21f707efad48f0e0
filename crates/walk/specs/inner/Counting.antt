-- Triangles counted by their parts, as the walk counts them: whatever the origin is, each is one of three.
use Rattle.std.specs.Prelude.{ℕ, Bool, true, false, List, Float}
use Rattle.sums.specs.Facet.{Part, out_of_range, sliver, used, part}
use Rattle.walk.specs.declared.TriangleCounts.{TriangleCounts}
use Rattle.walk.specs.Counts.{how_many}

unfoldable pub is_facet : Part → Bool
is_facet out_of_range = false
is_facet sliver = false
is_facet (used f) = true

unfoldable pub is_thin : Part → Bool
is_thin out_of_range = false
is_thin sliver = true
is_thin (used f) = false

unfoldable pub is_none : Part → Bool
is_none out_of_range = true
is_none sliver = false
is_none (used f) = false

unfoldable pub part_counts : List Float → List Float → List ℕ → TriangleCounts
part_counts vs o ids =
    record {
      used = how_many (λ t. is_facet (part vs o t)) ids;
      out_of_range = how_many (λ t. is_none (part vs o t)) ids;
      sliver = how_many (λ t. is_thin (part vs o t)) ids;
    }
