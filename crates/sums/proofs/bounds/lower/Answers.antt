-- `sums::bounds::lower` meets its contract: a bound that is no NaN gives way to what is less. Assumes nothing.
use Rattle.ieee.specs.Order.{least}
use Rattle.sums.proofs.bounds.lower.Goals as goal

pub returns-then-y-x : goal.returns-then-y-x
unfolding least
returns-then-y-x c = rw (c.requires, c.if-y-x.true)

pub returns-else-y-x : goal.returns-else-y-x
unfolding least
returns-else-y-x c = rw (c.requires, c.if-y-x.false)
