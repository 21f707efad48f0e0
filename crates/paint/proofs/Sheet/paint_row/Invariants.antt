-- What the loop keeps.
use Prim.Native.Nat.{◌+◌, ◌≤◌, max}
use Rattle.paint.specs.inner.Painted.{Adds}
use Rattle.paint.proofs.Boxes.{row_sofar}
use Rattle.paint.proofs.Sheet.paint_row.Given as goal

abbrev pub invariant-loop-i : goal.invariant-loop-i
invariant-loop-i l =
    (l.fn.columns.first ≤ l.i) × (l.i ≤ max l.fn.columns.first (l.fn.columns.last + 1))
    × Adds l.initial.part l.part (row_sofar l.self.grid l.t l.fn.j l.fn.columns.first l.i)
