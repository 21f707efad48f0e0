-- `sums::bounds::no_bounds` meets its contract. The two patterns are those of ∞ and -∞. Assumes nothing.
use lib.Ieee.{nan_bits, of_bits}
use Rattle.std.proofs.Common.{rules}
use Rattle.sums.specs.Box.{box_to, lowest, highest}
use borrow.Author.Rules.{rules}
use Rattle.sums.proofs.bounds.no_bounds.Goals as goal

pub float_from_bits-up : goal.float_from_bits-up
unfolding nan_bits
float_from_bits-up c = search rules

pub float_from_bits-down : goal.float_from_bits-down
unfolding nan_bits
float_from_bits-down c = search rules

pub returns : goal.returns
unfolding box_to lowest highest of_bits
returns c = search rules
