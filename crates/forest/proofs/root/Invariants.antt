-- What the loop keeps, and what grows less by each turn.
use Rattle.forest.proofs.Roots.{Climb}
use Rattle.forest.proofs.root.Given as goal

abbrev pub invariant-loop-x : goal.invariant-loop-x
invariant-loop-x l = Climb l.initial.work l.work l.t l.x

abbrev pub decreases-loop-x : goal.decreases-loop-x
decreases-loop-x l = l.x
