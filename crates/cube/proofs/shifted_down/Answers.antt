-- `cube::shifted_down` meets its contract. Assumes nothing.
use mathlib.Core.Path.{sym}
use native.Mathlib.Nat.{div-eq_of_lt}
use Rattle.ieee.proofs.Numbers.Basic.{below_pow}
use Rattle.cube.proofs.shifted_down.Goals as goal

pub returns-else-k-lt64 : goal.returns-else-k-lt64
returns-else-k-lt64 c =
    sym (div-eq_of_lt (below_pow c.args.n 64 c.args.k c.ranges.n.fits c.if-k-lt64.false))
