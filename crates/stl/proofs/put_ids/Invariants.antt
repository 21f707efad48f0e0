-- What the loop keeps: the ids put so far are their places.
use Rattle.stl.proofs.Ids.{Numbered}
use Rattle.stl.proofs.put_ids.Given as goal

abbrev pub invariant-loop-i : goal.invariant-loop-i
invariant-loop-i l = Numbered l.i l.area
