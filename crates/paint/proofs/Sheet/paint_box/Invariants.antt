-- What the loop keeps.
use Prim.Native.Nat.{◌+◌, ◌≤◌, max}
use Rattle.paint.specs.inner.Painted.{Adds}
use Rattle.paint.proofs.Boxes.{box_sofar}
use Rattle.paint.proofs.Sheet.paint_box.Given as goal

abbrev pub invariant-loop-j : goal.invariant-loop-j
invariant-loop-j l =
    (l.fn.rows.first ≤ l.j) × (l.j ≤ max l.fn.rows.first (l.fn.rows.last + 1))
    × Adds l.initial.part l.part (box_sofar l.self.grid l.t l.columns.first l.columns.last l.fn.rows.first l.j)
