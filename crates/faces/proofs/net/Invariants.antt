-- What the loop keeps.
use mathlib.Core.Path.{◌≡◌}
use Prim.Native.Nat.{◌≤◌}
use Rattle.table.specs.inner.Rows.{sum_to}
use Rattle.table.specs.inner.Table.{max_to}
use Rattle.faces.specs.inner.Rows.{row_off, row_size}
use Rattle.faces.proofs.net.Given as goal

abbrev pub invariant-loop-i : goal.invariant-loop-i
invariant-loop-i l =
    let s = l.sums in (s.max_abs ≡ max_to (row_size l.work) l.i) × (s.off ≡ sum_to (row_off l.work) l.i) × (s.off ≤ l.i)
