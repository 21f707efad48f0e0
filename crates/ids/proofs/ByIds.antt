-- By edges there are never fewer pieces than by ids, since an edge shared is an id shared; and where two tetrahedra touch at a corner there
-- are more, by computing. Assumes nothing.
use mathlib.Core.Path.{refl}
use Rattle.ids.specs.Triangles.{distinct, triangle, triangle_count}
use Rattle.ids.specs.Pieces.{any, touched, apart, groups, share_edge, those, solid, solids, pieces}
use Rattle.ids.specs.Examples.{Holds, tetrahedron, neighbour, examples}
use Rattle.ids.specs.ByIds.{has, share_id, NeverFewer, TwoAtACorner}
use Rattle.ids.proofs.Coarser.{coarser_no_more}
use Rattle.ids.proofs.Examples.{examples_hold}
use Rattle.ids.proofs.Shared.{share_both, id_both, edge_id}
use Rattle.ids.proofs.Solids.{those_once}

pub never_fewer : NeverFewer
unfolding pieces solids
never_fewer ids =
    coarser_no_more (λ s t. share_edge (triangle ids s) (triangle ids t)) (λ s t. share_id (triangle ids s) (triangle ids t))
    (λ s t. edge_id (triangle ids s) (triangle ids t)) (λ s t. share_both (triangle ids s) (triangle ids t))
    (λ s t. id_both (triangle ids s) (triangle ids t)) (solids ids) (those_once (solid ids) (triangle_count ids))

-- that they are two by edges is the end of the table's seventh row
pub two_at_a_corner : TwoAtACorner
unfolding Holds examples tetrahedron neighbour triangle any touched apart groups has share_id those solid solids pieces distinct
two_at_a_corner = (refl, examples_hold.7.7.7.7.7.7.6)
