-- `words::u16_at` meets its contract: the library's sum is the definition's. Assumes nothing.
use native.Mathlib.Omega.{arith}
use Rattle.words.specs.Words.{u16_at}
use Rattle.words.proofs.u16_at.Goals as goal

pub returns : goal.returns
unfolding u16_at
returns c = omega arith
