-- What the loop keeps: the same rows.
use Rattle.rows.specs.inner.Passes.{Keeps}
use Rattle.rows.proofs.presort.Given as goal

abbrev pub invariant-loop-gap : goal.invariant-loop-gap
invariant-loop-gap l = Keeps l.initial.rows l.rows
