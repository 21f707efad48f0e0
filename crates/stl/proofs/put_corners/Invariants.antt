-- What the loop keeps: the corners of the triangles so far stand in front.
use Rattle.stl.proofs.Corners.{Stand}
use Rattle.stl.proofs.put_corners.Given as goal

abbrev pub invariant-loop-t : goal.invariant-loop-t
invariant-loop-t l = Stand l.bytes l.t l.area
