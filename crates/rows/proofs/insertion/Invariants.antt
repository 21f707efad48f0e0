-- What the loop keeps: the first rows are rising, one more each turn.
use Rattle.std.proofs.Common.{◌≡◌, length}
use Rattle.rows.specs.inner.Passes.{AfterPass}
use Rattle.rows.proofs.insertion.Given as goal

abbrev pub invariant-loop-next : goal.invariant-loop-next
invariant-loop-next l = (length l.rows ≡ length l.initial.rows) × AfterPass l.gap l.next l.initial.rows l.rows
