-- The verdict does not see a mesh turned inside out: it asks edges, faces and the size of the volume, and these are the same. Assumes
-- nothing.
use mathlib.Core.Path.{◌≡◌}
use mathlib.Core.Bool.{Bool}
use mathlib.Core.List.{List}
use Prim.Native.Nat.{ℕ}
use lib.Ieee.{Float}
use Rattle.ieee.specs.Magnitude.{magnitude}
use Rattle.ids.specs.Reversed.{reversed}
use Rattle.ids.proofs.ReversedAlike.{reversed_alike}
use Rattle.weld.specs.Weld.{welded}
use Rattle.weld.proofs.Reversed.{welded_reversed}
use Rattle.verdict.specs.Verdict.{too_large, near_zero, by_faces, by_chain, quality}

by_faces_reversed : (ids : List ℕ) (near : Bool) → by_faces (reversed ids) near ≡ by_faces ids near
unfolding by_faces
by_faces_reversed ids near = let a = reversed_alike ids in rw (a.over_incident_lem, a.max_abs_lem, a.all_cancel_lem)

by_chain_reversed : (vs : List Float) (ids : List ℕ) (ε : Float) (near : Bool) → by_chain vs (reversed ids) ε near ≡ by_chain vs ids ε near
unfolding by_chain
by_chain_reversed vs ids ε near =
    let w = welded vs ids ε in
    rw (
      welded_reversed vs ids ε,
      (reversed_alike ids).boundary_free_lem,
      (reversed_alike w).boundary_free_lem,
      by_faces_reversed ids near,
      by_faces_reversed w near,
    )

-- for any weld distance, and any two volumes of one size
pub quality_reversed : (vs : List Float) (ids : List ℕ) (ε volume volume' box : Float) → magnitude volume' ≡ magnitude volume
    → quality vs (reversed ids) ε volume' box ≡ quality vs ids ε volume box
unfolding quality too_large near_zero
quality_reversed vs ids ε volume volume' box same = rw (same, by_chain_reversed vs ids ε _)
