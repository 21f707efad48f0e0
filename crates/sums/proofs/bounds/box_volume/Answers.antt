-- `sums::bounds::box_volume` meets its contract. The three lengths are what `extent` answers. Assumes nothing.
use Rattle.sums.specs.Box.{box_volume}
use Rattle.sums.proofs.bounds.box_volume.Goals as goal

pub returns : goal.returns
unfolding box_volume
returns c = rw (← c.extent-x.ensures, ← c.extent-y.ensures, ← c.extent-z.ensures)
