-- Document 01's starred examples, in one table with one statement, in its order, proved by `starred`.
use Rattle.std.specs.Prelude.{◌≡◌, true, false, [], ◌∷◌, ◌++◌, pos, negsuc, Some}
use Rattle.std.specs.Float.{fin, binary64}
use Rattle.ieee.specs.Integral.{half_away}
use Rattle.ieee.specs.Root.{root}
use Rattle.ids.specs.EdgeChain.{boundary_free, over_incident, closed_manifold}
use Rattle.ids.specs.FaceNet.{max_abs, all_cancel}
use Rattle.ids.specs.Pieces.{share_edge, pieces}
use Rattle.ids.specs.Examples.{tetrahedron, neighbour}
use Rattle.volume.specs.declared.Method.{Method}
use Rattle.record.specs.declared.MeshQto.{MeshQto}
use Rattle.record.specs.declared.ProfileDefect.{ProfileDefect}
use Rattle.record.specs.Flags.{flagged}

pub record Starred : Type 0 where
  -- 012 023 031 132: boundary-free, no face sum above 1, one piece
  pub tetrahedron_free : boundary_free tetrahedron ≡ true
  pub tetrahedron_faces : max_abs tetrahedron ≡ 1
  pub tetrahedron_pieces : pieces share_edge tetrahedron ≡ 1
  -- 012 210 333: boundary-free, faces cancel
  pub sheet_free : boundary_free (0 ∷ 1 ∷ 2 ∷ 2 ∷ 1 ∷ 0 ∷ 3 ∷ 3 ∷ 3 ∷ []) ≡ true
  pub sheet_cancels : all_cancel (0 ∷ 1 ∷ 2 ∷ 2 ∷ 1 ∷ 0 ∷ 3 ∷ 3 ∷ 3 ∷ []) ≡ true
  -- 012 210 alone: not boundary-free
  pub six_ids : boundary_free (0 ∷ 1 ∷ 2 ∷ 2 ∷ 1 ∷ 0 ∷ []) ≡ false
  -- nine zeros: not boundary-free, yet `is_closed_manifold` says yes
  pub zeros_free : boundary_free (0 ∷ 0 ∷ 0 ∷ 0 ∷ 0 ∷ 0 ∷ 0 ∷ 0 ∷ 0 ∷ []) ≡ false
  pub zeros_manifold : closed_manifold (0 ∷ 0 ∷ 0 ∷ 0 ∷ 0 ∷ 0 ∷ 0 ∷ 0 ∷ 0 ∷ []) ≡ true
  -- the first, each face twice: boundary-free, over-incident, face sum 2
  pub twice_free : boundary_free (tetrahedron ++ tetrahedron) ≡ true
  pub twice_crowded : over_incident (tetrahedron ++ tetrahedron) ≡ true
  pub twice_faces : max_abs (tetrahedron ++ tetrahedron) ≡ 2
  -- ten ids: not boundary-free
  pub ten_ids : boundary_free (0 ∷ 1 ∷ 2 ∷ 0 ∷ 2 ∷ 3 ∷ 0 ∷ 3 ∷ 1 ∷ 1 ∷ []) ≡ false
  -- roots of 0, 4 and 0.25: 0, 2, 0.5. (`fin s m e` is m * 2 ^ e, below zero where s is true; `negsuc k` is -(k + 1).)
  pub root_0 : root binary64 (fin false 0 (pos 0)) ≡ fin false 0 (pos 0)
  pub root_4 : root binary64 (fin false 1 (pos 2)) ≡ fin false 1 (pos 1)
  pub root_quarter : root binary64 (fin false 1 (negsuc 1)) ≡ fin false 1 (negsuc 0)
  -- 2.5 to 3; -0.5 to -1
  pub half_up : half_away binary64 (fin false 5 (negsuc 0)) ≡ fin false 3 (pos 0)
  pub half_down : half_away binary64 (fin true 1 (negsuc 0)) ≡ fin true 1 (pos 0)
  -- clip with defect on `mesh`: `mesh_unclipped`; defect alone: `mesh_profile_invalid`
  pub clip_and_defect : (q : MeshQto) (d : ProfileDefect) → q.volume_method ≡ Method.Mesh
      → (flagged true (Some d) q).volume_method ≡ Method.MeshUnclipped
  pub defect_alone : (q : MeshQto) (d : ProfileDefect) → q.volume_method ≡ Method.Mesh
      → (flagged false (Some d) q).volume_method ≡ Method.MeshProfileInvalid
  -- two tetrahedra sharing one id: one piece in 01, two by 02 (A2), since no edge is common
  pub one_common_id : pieces share_edge (tetrahedron ++ neighbour) ≡ 2
