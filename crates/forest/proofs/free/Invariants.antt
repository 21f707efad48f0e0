-- What the loop keeps.
use Rattle.forest.specs.inner.Words.{Freed}
use Rattle.forest.proofs.free.Given as goal

abbrev pub invariant-loop-word : goal.invariant-loop-word
invariant-loop-word l = Freed l.word-index l.initial.work l.work
