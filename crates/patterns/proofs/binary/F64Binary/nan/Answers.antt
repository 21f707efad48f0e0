-- The NaN is 0 / 0. Assumes nothing.
use mathlib.Core.Path.{refl}
use lib.Ieee.{div, of_bits}
use Rattle.patterns.proofs.binary.F64Binary.nan.Goals as goal

pub returns : goal.returns
unfolding div of_bits
returns c = refl
