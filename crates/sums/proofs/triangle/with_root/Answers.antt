-- `sums::triangle::with_root` meets its contract: the length is the root of the square. Assumes nothing.
use Rattle.sums.specs.inner.Prepared.{with_root}
use Rattle.sums.proofs.triangle.with_root.Goals as goal

pub returns : goal.returns
unfolding with_root
returns c = rw c.length_of.ensures
