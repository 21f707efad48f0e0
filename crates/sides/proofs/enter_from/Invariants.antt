-- What the loop keeps: the triangles from `from` on below t are entered, or looked up.
use Prim.Native.Nat.{◌*◌}
use lib.Dec.{ltb}
use Rattle.sides.specs.inner.Passes.{Enters}
use Rattle.sides.proofs.enter_from.Given as goal

abbrev pub invariant-loop-t : goal.invariant-loop-t
invariant-loop-t l = Enters l.plan l.ids (3 * l.from) (3 * l.t) l.initial.work l.work (ltb 0 l.most)
