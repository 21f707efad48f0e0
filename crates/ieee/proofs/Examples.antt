-- The table of worked examples, proved by computing. Assumes nothing.
use lib.Ieee.{is_nan, lt, of_bits, round, size, to_bits, to_signed, to_unsigned, units}
use Rattle.ieee.specs.Cube.{cube_above}
use Rattle.ieee.specs.Examples.{Examples}
use Rattle.ieee.specs.Integral.{integral}
use Rattle.ieee.specs.Magnitude.{magnitude}
use Rattle.ieee.specs.Order.{least, greatest}
use Rattle.ieee.specs.Root.{closest_root, digits, floor_root, root, root_round}
use Rattle.ieee.specs.Rounded.{rounded}

pub examples : Examples
unfolding is_nan lt of_bits round to_bits to_signed to_unsigned integral rounded size units digits floor_root closest_root root_round root
    magnitude least greatest cube_above
examples = search
