-- What the loop keeps.
use Rattle.vertices.specs.Vertices.{axis_number}
use Rattle.paint.specs.inner.Painted.{Adds}
use Rattle.paint.proofs.Covering.{all_sofar}
use Rattle.paint.proofs.Sheet.paint_triangles.Given as goal

abbrev pub invariant-loop-t : goal.invariant-loop-t
invariant-loop-t l =
    Adds l.initial.part l.part
    (all_sofar l.mesh.vertices.now (axis_number l.mesh.u) (axis_number l.mesh.v) l.self.grid l.mesh.ids.now l.t)
