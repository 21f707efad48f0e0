-- What the loop keeps.
use mathlib.Core.Path.{◌≡◌}
use lib.ListN.{length}
use Rattle.faces.proofs.Summing.{Summing}
use Rattle.faces.proofs.gather.Given as goal

abbrev pub invariant-loop-t : goal.invariant-loop-t
invariant-loop-t l = (length l.work ≡ length l.initial.work) × Summing l.ids l.n l.work l.t
