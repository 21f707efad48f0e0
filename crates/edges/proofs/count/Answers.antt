-- `edges::count` meets its contract: after i turns the total is the sum over the first i rows. Assumes nothing.
use mathlib.Core.Path.{refl}
use native.Mathlib.Omega.{arith}
use Rattle.table.specs.inner.Rows.{sum_to}
use Rattle.edges.proofs.Tally.{counted_next}
use Rattle.edges.proofs.count.Goals as goal

pub loop-i-init : goal.loop-i-init
unfolding sum_to
loop-i-init g c = (refl, omega arith)

pub loop-i-preserved : goal.loop-i-preserved
loop-i-preserved g c =
    let l = c.loop-i in
    counted_next g.T.EdgeTest.holds c.args.work.now l.i l.total _ _ c.passes.result c.from.ensures c.passes.ensures l.invariant.0
    l.invariant.1
