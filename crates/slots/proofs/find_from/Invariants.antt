-- What the loop keeps, and what grows less by each turn.
use Prim.Native.Nat.{◌-◌, ◌*◌}
use Rattle.table.specs.inner.Rows.{dist}
use Rattle.slots.proofs.Search.{At}
use Rattle.slots.proofs.find_from.Given as goal

abbrev pub invariant-loop-k : goal.invariant-loop-k
invariant-loop-k g l = At g.L.Layout.form l.n l.part l.start l.k l.r

abbrev pub decreases-loop-k : goal.decreases-loop-k
decreases-loop-k g l = 2 * l.n - dist (2 * l.n) l.start l.r
