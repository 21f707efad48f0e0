-- `words::u32_at` meets its contract: the library's sum is the definition's. Assumes nothing.
use native.Mathlib.Omega.{arith}
use Rattle.words.specs.Words.{u32_at}
use Rattle.words.proofs.u32_at.Goals as goal

pub returns : goal.returns
unfolding u32_at
returns c = omega arith
