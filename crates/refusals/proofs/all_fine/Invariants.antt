-- What the loop keeps.
use mathlib.Core.Path.{◌≡◌}
use mathlib.Core.Bool.{◌&&◌}
use lib.ListN.{drop}
use Rattle.sums.specs.Fine.{all_fine}
use Rattle.refusals.proofs.all_fine.Given as goal

abbrev pub invariant-loop-x : goal.invariant-loop-x
invariant-loop-x l = (l.fine && all_fine (drop l.x-index l.vertices)) ≡ all_fine l.vertices
