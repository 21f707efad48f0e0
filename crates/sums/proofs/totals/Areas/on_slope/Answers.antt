-- `sums::totals::Areas::on_slope` meets its contract: the slope decides which of the four takes the area. Assumes nothing.
use Rattle.sums.specs.Totals.{on_slope}
use Rattle.sums.proofs.totals.Areas.on_slope.Goals as goal

pub returns-in-Top : goal.returns-in-Top
unfolding on_slope
returns-in-Top c = rw c.in-Top.is

pub returns-in-Bottom : goal.returns-in-Bottom
unfolding on_slope
returns-in-Bottom c = rw c.in-Bottom.is

pub returns-in-Side : goal.returns-in-Side
unfolding on_slope
returns-in-Side c = rw c.in-Side.is

pub returns-in-Inclined : goal.returns-in-Inclined
unfolding on_slope
returns-in-Inclined c = rw c.in-Inclined.is
