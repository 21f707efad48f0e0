-- What the loop keeps.
use Rattle.forest.specs.inner.Words.{Planted}
use Rattle.forest.proofs.plant.Given as goal

abbrev pub invariant-loop-t : goal.invariant-loop-t
invariant-loop-t l = Planted l.t l.work
