-- The starred examples hold, by computing. Assumes nothing.
use mathlib.Core.Path.{refl as ok}
use Rattle.ids.specs.Triangles.{distinct, over_triangles, triangle}
use Rattle.ids.specs.Uses.{bit, sum_by, max_by, counting, uses, signed_sum, keys, keys_that, largest_sum}
use Rattle.ids.specs.EdgeChain.{same_edge, step, around, enough, chain, present, unbalanced, crowded, unpaired, incoherent}
use Rattle.ids.specs.EdgeChain.{boundary_free, over_incident, proper_step, around_proper, closed_manifold, winding_coherent}
use Rattle.ids.specs.FaceNet.{same_face, sorted_ids, falls, face_use, face, max_abs, all_cancel}
use Rattle.ids.specs.Pieces.{any, touched, apart, groups, has_edge, share_edge, those, solid, solids, pieces}
use Rattle.ids.specs.Examples.{Holds, tetrahedron, neighbour, hinged, stranger, examples}

pub examples_hold : Holds examples
unfolding Holds tetrahedron neighbour hinged stranger examples triangle any touched apart groups has_edge share_edge those solid solids pieces
    distinct over_triangles bit sum_by max_by counting uses signed_sum keys keys_that largest_sum same_edge step around enough chain
    present unbalanced crowded unpaired incoherent boundary_free over_incident proper_step around_proper closed_manifold winding_coherent
    same_face sorted_ids falls face_use face max_abs all_cancel
examples_hold = (
  ok,
  ok,
  ok,
  ok,
  ok,
  ok,
  ok,
  (
    ok,
    ok,
    ok,
    ok,
    ok,
    ok,
    ok,
    (
      ok,
      ok,
      ok,
      ok,
      ok,
      ok,
      ok,
      (
        ok,
        ok,
        ok,
        ok,
        ok,
        ok,
        ok,
        (
          ok,
          ok,
          ok,
          ok,
          ok,
          ok,
          ok,
          (
            ok,
            ok,
            ok,
            ok,
            ok,
            ok,
            ok,
            (ok, ok, ok, ok, ok, ok, ok, (ok, ok, ok, ok, ok, ok, ok, (ok, ok, ok, ok, ok, ok, ok, tt))),
          ),
        ),
      ),
    ),
  ),
)
