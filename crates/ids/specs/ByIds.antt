-- What 02 changed (A2): 01 joined two triangles where they share an id, a corner being enough. By edges there are never fewer pieces, and
-- where two plinths touch at a corner there are more.
use Rattle.std.specs.Prelude.{◌≡◌, Bool, ◌||◌, List, ◌++◌, ℕ, ◌≤◌, eqb}
use Rattle.ids.specs.Triangles.{Triangle}
use Rattle.ids.specs.Pieces.{share_edge, pieces}
use Rattle.ids.specs.Examples.{tetrahedron, neighbour}

-- is x one of t's ids?
unfoldable pub has : Triangle → ℕ → Bool
has t x = eqb x t.a || (eqb x t.b || eqb x t.c)

-- what joined two triangles in 01: a shared id
unfoldable pub share_id : Triangle → Triangle → Bool
share_id s t = has t s.a || (has t s.b || has t s.c)

-- (`never_fewer`)
abbrev pub NeverFewer : Type 0
NeverFewer = (ids : List ℕ) → pieces share_id ids ≤ pieces share_edge ids

-- two tetrahedra with one id in common were one piece, and are two (`two_at_a_corner`)
abbrev pub TwoAtACorner : Type 0
TwoAtACorner = (pieces share_id (tetrahedron ++ neighbour) ≡ 1) × (pieces share_edge (tetrahedron ++ neighbour) ≡ 2)
