-- `volume::or_none` meets its contract: by whether p is below infinity. Assumes nothing.
use lib.Ieee.{nan_bits, lt, mul, of_bits}
use Rattle.volume.specs.Best.{or_none}
use borrow.Author.Rules.{rules}
use Rattle.volume.proofs.or_none.Goals as goal

pub float_from_bits-t-3 : goal.float_from_bits-t-3
unfolding nan_bits
float_from_bits-t-3 c = search rules

pub returns-then-p : goal.returns-then-p
unfolding or_none mul lt of_bits
returns-then-p c = rw c.if-p.true

pub returns-else-p : goal.returns-else-p
unfolding or_none lt of_bits
returns-else-p c = rw c.if-p.false
