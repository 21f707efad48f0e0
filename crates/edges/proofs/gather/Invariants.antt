-- What the loop keeps: turn t has counted the triangles of the first 3 * t ids.
use mathlib.Core.Path.{◌≡◌}
use Prim.Native.Nat.{◌*◌}
use lib.ListN.{length}
use Rattle.edges.proofs.Gathering.{Gathering}
use Rattle.edges.proofs.gather.Given as goal

abbrev pub invariant-loop-t : goal.invariant-loop-t
invariant-loop-t g l = (length l.work ≡ length l.initial.work) × Gathering g.C.Counted.edges l.ids l.n l.work (3 * l.t)
