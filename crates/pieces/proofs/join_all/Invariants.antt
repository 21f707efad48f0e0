-- What the loop keeps: the classes before this one are settled.
use lib.ListN.{length}
use Rattle.pieces.proofs.Joining.{Joining}
use Rattle.pieces.proofs.join_all.Given as goal

abbrev pub invariant-loop-class : goal.invariant-loop-class
invariant-loop-class l = Joining l.ids l.work (length l.initial.work) l.class
