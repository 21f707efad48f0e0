-- `paint::Sheet::paint_box` meets its contract: the rows from the first on, below j, are painted. Assumes nothing.
use native.Mathlib.Omega.{arith}
use Rattle.paint.proofs.Boxes.{box_first, box_next, box_last}
use Rattle.paint.proofs.Sheet.paint_box.Goals as goal

pub loop-j-init : goal.loop-j-init
loop-j-init c = (omega arith, omega arith, box_first _ _ _ _ _ _)

pub loop-j-preserved : goal.loop-j-preserved
loop-j-preserved c =
    let l = c.loop-j in
    (omega (arith, l.invariant.0), omega (arith, c.loop-j-test.true), box_next _ _ _ _ _ l.j l.invariant.0 l.invariant.2 c.paint_row.ensures)

pub returns : goal.returns
returns c = let l = c.loop-j in box_last _ _ _ _ _ _ l.j (omega arith) l.invariant.1 l.invariant.2
