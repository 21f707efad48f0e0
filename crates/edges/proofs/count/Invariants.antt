-- What the loop keeps.
use mathlib.Core.Path.{◌≡◌}
use Prim.Native.Nat.{◌≤◌}
use Rattle.table.specs.inner.Rows.{sum_to}
use Rattle.edges.specs.inner.Tests.{row_bit}
use Rattle.edges.proofs.count.Given as goal

abbrev pub invariant-loop-i : goal.invariant-loop-i
invariant-loop-i g l = (l.total ≡ sum_to (row_bit g.T.EdgeTest.holds l.work) l.i) × (l.total ≤ l.i)
