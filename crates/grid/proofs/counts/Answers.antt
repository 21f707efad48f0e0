-- `grid::counts` meets its contract. Assumes nothing.
use mathlib.Core.Path.{ap, sym}
use mathlib.Core.Bool.{not}
use Rattle.ieee.specs.Single.{tiny}
use Rattle.ieee.proofs.Order.Magnitudes.{magnitude_below}
use Rattle.grid.specs.Point.{counts, side}
use Rattle.grid.proofs.counts.Goals as goal

pub returns : goal.returns
unfolding counts side
returns c = ap not (sym (magnitude_below _ tiny))
