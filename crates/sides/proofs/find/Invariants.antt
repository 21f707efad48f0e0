-- What the loop keeps.
use lib.ListN.{length}
use Rattle.forest.specs.inner.Words.{held_in}
use Rattle.sides.specs.inner.Sides.{slot_edge}
use Rattle.sides.proofs.Search.{Seeking}
use Rattle.sides.proofs.find.Given as goal

abbrev pub invariant-loop : goal.invariant-loop
invariant-loop l =
    Seeking (length l.work) l.limit l.at (slot_edge l.ids (held_in l.work)) (held_in l.work) l.edge l.r l.counter
