-- What the loop keeps, and what grows less by each turn.
use mathlib.Core.Path.{◌≡◌}
use Prim.Native.Nat.{◌≤◌}
use lib.ListN.{length}
use Rattle.rows.specs.Rows.{rows_of}
use Rattle.rows.specs.inner.Passes.{Keeps}
use Rattle.rows.proofs.Sinking.{Sinking}
use Rattle.rows.proofs.settle.Given as goal

abbrev pub invariant-loop-j : goal.invariant-loop-j
invariant-loop-j l = (l.j ≤ l.i) × (length l.rows ≡ length l.initial.rows) × Keeps l.initial.rows l.rows × Sinking l.gap (rows_of l.rows) l.i l.j

abbrev pub decreases-loop-j : goal.decreases-loop-j
decreases-loop-j l = l.j
