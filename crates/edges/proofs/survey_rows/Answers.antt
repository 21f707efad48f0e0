-- `edges::survey_rows` meets its contract: after i turns each count is the sum over the first i rows. Assumes nothing.
use mathlib.Core.Path.{refl}
use native.Mathlib.Omega.{arith}
use Rattle.ids.specs.EdgeChain.{present, unbalanced, crowded}
use Rattle.table.specs.inner.Rows.{sum_to}
use Rattle.edges.proofs.Tally.{counted_next}
use Rattle.edges.proofs.survey_rows.Goals as goal

pub loop-i-init : goal.loop-i-init
unfolding sum_to
loop-i-init c = (refl, refl, refl, omega arith, omega arith, omega arith)

pub loop-i-preserved : goal.loop-i-preserved
loop-i-preserved c =
    let l = c.loop-i in
    let k = l.invariant in
    let row = c.from-uses.ensures in
    let t = c.args.work.now in
    let p = counted_next present t l.i l.survey.present _ _ c.passes.result row c.passes.ensures k.0 k.3 in
    let u = counted_next unbalanced t l.i l.survey.unbalanced _ _ c.passes-in-loop-i.result row c.passes-in-loop-i.ensures k.1 k.4 in
    let m = counted_next crowded t l.i l.survey.crowded _ _ c.passes-in-loop-i-2.result row c.passes-in-loop-i-2.ensures k.2 k.5 in
    (p.0, u.0, m.0, p.1, u.1, m.1)
