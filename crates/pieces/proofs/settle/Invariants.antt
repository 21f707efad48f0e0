-- What the loop keeps: triangle t is tied to those behind it below j.
use Prim.Native.Nat.{◌+◌}
use lib.ListN.{length}
use Rattle.sides.specs.inner.Joins.{Grows}
use Rattle.pieces.specs.inner.Joined.{Tied}
use Rattle.pieces.proofs.settle.Given as goal

abbrev pub invariant-loop-j : goal.invariant-loop-j
invariant-loop-j l = Grows l.ids l.initial.work l.work (Tied l.ids (length l.initial.work) l.t (l.t + 1) l.j)
