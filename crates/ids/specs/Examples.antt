-- The starred examples of document 01 on lists of ids, in one table with one statement; 02 (A2) makes the one with one common id two
-- pieces. The tetrahedron is 012 023 031 132; the second of two that share one id has 3, 4, 5 and 6 in the places of 0, 1, 2 and 3. The
-- last two rows are no starred ones: two tetrahedra with a common edge, which is used four times and joins them; and two tetrahedra apart,
-- a triangle that repeats an id, an id left over.
use Rattle.std.specs.Prelude.{◌≡◌, Bool, true, false, List, [], ◌∷◌, ◌++◌, ℕ}
use Rattle.ids.specs.EdgeChain.{boundary_free, over_incident, closed_manifold, winding_coherent}
use Rattle.ids.specs.FaceNet.{max_abs, all_cancel}
use Rattle.ids.specs.Pieces.{share_edge, pieces}

-- one row: ids, and what is said of them
pub data Example : Type 0 where
  says : (ids : List ℕ) (free crowded : Bool) (largest : ℕ) (cancel manifold coherent : Bool) (pieces : ℕ) → Example

unfoldable pub Holds : List Example → Type 0
Holds [] = Unit {0}
Holds (says ids free crowded largest cancel closed wound count ∷ es) =
    (boundary_free ids ≡ free)
    × (over_incident ids ≡ crowded)
    × (max_abs ids ≡ largest)
    × (all_cancel ids ≡ cancel)
    × (closed_manifold ids ≡ closed)
    × (winding_coherent ids ≡ wound)
    × (pieces share_edge ids ≡ count)
    × Holds es

unfoldable pub tetrahedron : List ℕ
tetrahedron = 0 ∷ 1 ∷ 2 ∷ 0 ∷ 2 ∷ 3 ∷ 0 ∷ 3 ∷ 1 ∷ 1 ∷ 3 ∷ 2 ∷ []

unfoldable pub neighbour : List ℕ
neighbour = 3 ∷ 4 ∷ 5 ∷ 3 ∷ 5 ∷ 6 ∷ 3 ∷ 6 ∷ 4 ∷ 4 ∷ 6 ∷ 5 ∷ []

unfoldable pub hinged : List ℕ
hinged = 2 ∷ 3 ∷ 4 ∷ 2 ∷ 4 ∷ 5 ∷ 2 ∷ 5 ∷ 3 ∷ 3 ∷ 5 ∷ 4 ∷ []

unfoldable pub stranger : List ℕ
stranger = 7 ∷ 4 ∷ 5 ∷ 7 ∷ 5 ∷ 6 ∷ 7 ∷ 6 ∷ 4 ∷ 4 ∷ 6 ∷ 5 ∷ []

unfoldable pub examples : List Example
examples =
    says tetrahedron true false 1 false true true 1
    ∷ says (0 ∷ 1 ∷ 2 ∷ 2 ∷ 1 ∷ 0 ∷ 3 ∷ 3 ∷ 3 ∷ []) true false 0 true true true 1
    ∷ says (0 ∷ 1 ∷ 2 ∷ 2 ∷ 1 ∷ 0 ∷ []) false false 0 true false false 1
    ∷ says (0 ∷ 0 ∷ 0 ∷ 0 ∷ 0 ∷ 0 ∷ 0 ∷ 0 ∷ 0 ∷ []) false false 0 true true false 0
    ∷ says (tetrahedron ++ tetrahedron) true true 2 false false false 1
    ∷ says (0 ∷ 1 ∷ 2 ∷ 0 ∷ 2 ∷ 3 ∷ 0 ∷ 3 ∷ 1 ∷ 1 ∷ []) false false 1 false false false 1
    ∷ says (tetrahedron ++ neighbour) true false 1 false true true 2
    ∷ says (tetrahedron ++ hinged) true true 1 false false false 1
    ∷ says (tetrahedron ++ (3 ∷ 3 ∷ 7 ∷ stranger) ++ (3 ∷ [])) false false 1 false false false 2
    ∷ []
