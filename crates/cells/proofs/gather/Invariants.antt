-- What the loop keeps.
use Rattle.cells.specs.inner.Table.{Weldable}
use Rattle.cells.proofs.gather.Given as goal

abbrev pub invariant-loop-v : goal.invariant-loop-v
invariant-loop-v l = Weldable l.vertices l.inv l.part l.v
