-- What the loop keeps, and what grows less by each turn.
use mathlib.Core.Path.{◌≡◌}
use Prim.Native.Nat.{◌-◌, ◌*◌, ◌≤◌}
use lib.ListN.{length}
use Rattle.sides.specs.inner.Sides.{taken}
use Rattle.sides.specs.inner.Passes.{Settles}
use Rattle.pieces.proofs.join_class.Given as goal

abbrev pub invariant-loop-t : goal.invariant-loop-t
invariant-loop-t l =
    (length l.work ≡ length l.initial.work) × (l.t ≤ length l.initial.work) × Settles l.ids (taken l.ids l.class) (length l.initial.work) 0 (3 * l.t) l.initial.work l.work

abbrev pub decreases-loop-t : goal.decreases-loop-t
decreases-loop-t l = length l.initial.work - l.t
