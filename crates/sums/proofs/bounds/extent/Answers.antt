-- `sums::bounds::extent` meets its contract. It is the definition, step by step. Assumes nothing.
use Rattle.ieee.specs.Single.{extent}
use Rattle.sums.proofs.bounds.extent.Goals as goal

pub returns : goal.returns
unfolding extent
returns c = c.greatest.ensures
