-- `paint::Sheet::paint_triangles` meets its contract: the triangles with a number below t are painted. Assumes nothing.
use native.Mathlib.Omega.{arith}
use Rattle.paint.proofs.Covering.{all_first, all_next, all_last}
use Rattle.paint.proofs.Sheet.paint_triangles.Goals as goal

pub loop-t-init : goal.loop-t-init
loop-t-init c = all_first _ _ _ _ _ _

pub loop-t-preserved : goal.loop-t-preserved
loop-t-preserved c = let l = c.loop-t in all_next _ _ _ _ _ _ l.invariant c.paint_triangle.ensures

pub returns : goal.returns
returns c = let l = c.loop-t in all_last _ _ _ _ _ l.t (omega arith) l.invariant
