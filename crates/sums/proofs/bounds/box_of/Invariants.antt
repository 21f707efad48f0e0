-- What the loop keeps: the bounds are those of the first v vertices.
use Rattle.std.proofs.Common.{◌≡◌}
use Rattle.sums.specs.Box.{box_to}
use Rattle.sums.proofs.bounds.box_of.Given as goal

abbrev pub invariant-loop-v : goal.invariant-loop-v
invariant-loop-v l = l.b ≡ box_to l.vertices l.v
