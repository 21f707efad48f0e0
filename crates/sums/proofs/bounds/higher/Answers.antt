-- `sums::bounds::higher` meets its contract: a bound that is no NaN gives way to what is greater. Assumes nothing.
use Rattle.ieee.specs.Order.{greatest}
use Rattle.sums.proofs.bounds.higher.Goals as goal

pub returns-then-x-y : goal.returns-then-x-y
unfolding greatest
returns-then-x-y c = rw (c.requires, c.if-x-y.true)

pub returns-else-x-y : goal.returns-else-x-y
unfolding greatest
returns-else-x-y c = rw (c.requires, c.if-x-y.false)
