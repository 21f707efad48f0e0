-- `sums::totals::Totals::add` meets its contract. Assumes nothing.
use Rattle.sums.specs.Totals.{with_facet}
use Rattle.sums.proofs.totals.Totals.add.Goals as goal

pub returns : goal.returns
unfolding with_facet
returns c = rw (c.on_slope-self.ensures, c.slope_of.ensures)
