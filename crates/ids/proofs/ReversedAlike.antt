-- Reversed ids are answered alike: whatever is asked of their edges and faces goes by how often a key is used and by the magnitude of its
-- sum, and pieces by distinct ids and shared edges. Assumes nothing.
use mathlib.Core.Path.{◌≡◌}
use mathlib.Core.Bool.{Bool}
use mathlib.Core.List.{List}
use Prim.Native.Nat.{ℕ}
use Rattle.ids.specs.Uses.{Use}
use Rattle.ids.specs.EdgeChain.{Edge, edges_that, same_edge, present, unbalanced, crowded, unpaired, incoherent}
use Rattle.ids.specs.EdgeChain.{boundary_free, over_incident, closed_manifold, winding_coherent}
use Rattle.ids.specs.FaceNet.{same_face, faces, max_abs, all_cancel}
use Rattle.ids.specs.Reversed.{reversed, ReversedAlike}
use Rattle.ids.specs.Pieces.{share_edge}
use Rattle.ids.proofs.Same.{edge_eq, edge_refl, face_eq, face_refl}
use Rattle.ids.proofs.Alike.{Alike, alike_keys, alike_largest}
use Rattle.ids.proofs.Opposite.{Opposite, opposite_alike}
use Rattle.ids.proofs.Reversed.{reversed_is}
use Rattle.ids.proofs.Shared.{share_turned}
use Rattle.ids.proofs.Joined.{pieces_reversed}
use Rattle.ids.proofs.Walks.{chain_reversed, proper_reversed, faces_reversed}

-- as many edges pass
edges_that_lem : {es fs : List (Use Edge)} → Opposite same_edge es fs → (test : ℕ → ℕ → Bool) → edges_that test es ≡ edges_that test fs
edges_that_lem h test = alike_keys same_edge edge_eq edge_refl test (opposite_alike same_edge h)

pub reversed_alike : (ids : List ℕ) → ReversedAlike ids
unfolding boundary_free over_incident closed_manifold winding_coherent max_abs all_cancel
reversed_alike ids =
    let long = (reversed_is ids).long in
    let chained = edges_that_lem (chain_reversed ids) in
    let proper = edges_that_lem (proper_reversed ids) in
    let nets : Alike same_face (faces (reversed ids)) (faces ids) = opposite_alike same_face (faces_reversed ids) in
    record {
      boundary_free_lem = rw (chained present, chained unbalanced);
      over_incident_lem = rw (chained crowded);
      max_abs_lem = alike_largest same_face face_eq face_refl nets;
      all_cancel_lem = rw (alike_keys same_face face_eq face_refl unbalanced nets);
      closed_manifold_lem = rw (long, proper unpaired);
      winding_coherent_lem = rw (long, proper present, proper incoherent);
      piece_count = pieces_reversed share_edge share_turned ids;
    }
