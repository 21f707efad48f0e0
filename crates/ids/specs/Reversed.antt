-- The glove (02, A9): the ids of a mesh turned inside out, the last two of every triangle swapped; and what of ids does not see it.
use Rattle.std.specs.Prelude.{◌≡◌, List, [], ◌∷◌, ℕ, ◌*◌, ◌<◌, length, drop}
use Rattle.ids.specs.Triangles.{Triangle, distinct, triangle, triangle_count}
use Rattle.ids.specs.EdgeChain.{boundary_free, over_incident, closed_manifold, winding_coherent}
use Rattle.ids.specs.FaceNet.{max_abs, all_cancel}
use Rattle.ids.specs.Pieces.{share_edge, pieces}

-- the last two ids swapped
abbrev pub turned_triangle : Triangle → Triangle
turned_triangle t = record { a = t.a; b = t.c; c = t.b }

-- in every complete triple; one or two ids left over stay
unfoldable pub reversed : List ℕ → List ℕ
reversed [] = []
reversed (a ∷ []) = a ∷ []
reversed (a ∷ b ∷ []) = a ∷ b ∷ []
reversed (a ∷ b ∷ c ∷ ids) = a ∷ c ∷ b ∷ reversed ids

-- ---- what that is (`reversed_is`)
pub record ReversedIs (ids : List ℕ) : Type 0 where
  pub twice : reversed (reversed ids) ≡ ids
  pub long : length (reversed ids) ≡ length ids
  pub each : (t : ℕ) → t < triangle_count ids → triangle (reversed ids) t ≡ turned_triangle (triangle ids t)
  pub rest : drop (3 * triangle_count ids) (reversed ids) ≡ drop (3 * triangle_count ids) ids

-- a triangle that repeats an id still does, and no other (`turned_distinct`)
abbrev pub TurnedDistinct : Type 0
TurnedDistinct = (t : Triangle) → distinct (turned_triangle t) ≡ distinct t

-- ---- what is asked of edges, faces and pieces is answered alike (`reversed_alike`)
pub record ReversedAlike (ids : List ℕ) : Type 0 where
  pub boundary_free_lem : boundary_free (reversed ids) ≡ boundary_free ids
  pub over_incident_lem : over_incident (reversed ids) ≡ over_incident ids
  pub max_abs_lem : max_abs (reversed ids) ≡ max_abs ids
  pub all_cancel_lem : all_cancel (reversed ids) ≡ all_cancel ids
  pub closed_manifold_lem : closed_manifold (reversed ids) ≡ closed_manifold ids
  pub winding_coherent_lem : winding_coherent (reversed ids) ≡ winding_coherent ids
  pub piece_count : pieces share_edge (reversed ids) ≡ pieces share_edge ids
