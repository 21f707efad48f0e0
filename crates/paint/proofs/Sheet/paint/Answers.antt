-- `paint::Sheet::paint` meets its contract: the cells of the triangle's box, or none where it does not count. Assumes nothing.
use mathlib.Core.Path.{sym, ◌∙◌}
use Rattle.paint.proofs.Covering.{counts_in, counts_out}
use Rattle.paint.proofs.Sheet.paint.Goals as goal

pub returns-then-counts : goal.returns-then-counts
returns-then-counts c =
    let columns = c.span-columns.ensures in
    let rows = c.span-rows.ensures in
    counts_in _ _ _ _ _ _ (sym c.counts.ensures ∙ c.if-counts.true) columns.0 columns.1 rows.0 rows.1 c.paint_box.ensures

pub returns-else-counts : goal.returns-else-counts
returns-else-counts c = counts_out _ _ _ (sym c.counts.ensures ∙ c.if-counts.false)
