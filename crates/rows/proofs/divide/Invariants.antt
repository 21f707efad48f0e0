-- What the loop keeps: the last one is in front of the next, and the rows are the same.
use Rattle.std.proofs.Common.{◌≡◌, ◌<◌, length}
use Rattle.rows.specs.inner.Passes.{Keeps}
use Rattle.rows.proofs.divide.Given as goal

abbrev pub invariant-loop-i : goal.invariant-loop-i
invariant-loop-i l = (l.last < l.i) × (length l.rows ≡ length l.initial.rows) × Keeps l.initial.rows l.rows
