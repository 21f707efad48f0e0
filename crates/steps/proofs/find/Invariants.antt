-- What the loop keeps, and what grows less by each turn.
use Prim.Native.Nat.{◌-◌}
use Rattle.table.specs.inner.Rows.{dist}
use Rattle.table.proofs.Turn.{Looking}
use Rattle.steps.specs.inner.Rows.{edge_at, edge_uses}
use Rattle.steps.proofs.find.Given as goal

abbrev pub invariant-search : goal.invariant-search
invariant-search l = Looking l.n l.start (edge_at l.work) (edge_uses l.work) l.edge l.r

abbrev pub decreases-search : goal.decreases-search
decreases-search l = l.n - dist l.n l.start l.r
