-- `paint::Sheet::paint_triangle` meets its contract: ids in range have their coordinates, and others add nothing. Assumes nothing.
use mathlib.Core.Path.{sym, ◌∙◌}
use Rattle.paint.proofs.Covering.{lies_in, lies_out}
use Rattle.paint.proofs.Sheet.paint_triangle.Goals as goal

pub returns-then-corners_in_range : goal.returns-then-corners_in_range
returns-then-corners_in_range c =
    rw (← c.of-corners.ensures)
    (lies_in _ _ _ _ _ (sym c.corners_in_range.ensures ∙ c.if-corners_in_range.true) (rw c.flat.ensures at c.paint.ensures))

pub returns-else-corners_in_range : goal.returns-else-corners_in_range
returns-else-corners_in_range c = rw (← c.of-corners.ensures) (lies_out _ _ _ _ _ _ (sym c.corners_in_range.ensures ∙ c.if-corners_in_range.false))
