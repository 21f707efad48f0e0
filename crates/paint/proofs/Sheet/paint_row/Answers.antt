-- `paint::Sheet::paint_row` meets its contract: the columns from the first on, below i, are painted. Assumes nothing.
use Prim.Native.Nat.{◌<◌}
use native.Mathlib.Omega.{arith}
use Rattle.paint.proofs.Boxes.{row_first, row_next, row_last}
use Rattle.paint.proofs.Sheet.paint_row.Goals as goal

pub loop-i-init : goal.loop-i-init
loop-i-init c = (omega arith, omega arith, row_first _ _ _ _ _)

pub loop-i-preserved : goal.loop-i-preserved
loop-i-preserved c =
    let l = c.loop-i in
    let g = c.args.self.now.grid in
    let column : l.i < g.columns.n = omega (arith, c.loop-i-test.true, c.requires.0) in
    let centre = c.args.self.now.centred l.i (omega (arith, column, c.args.self.now.whole, c.args.self.now.sized.columns.few)) in
    let more = row_next _ _ _ _ l.i _ _ _ column c.requires.1 c.requires.2 l.invariant.0 centre c.centre-y.ensures c.mark.ensures l.invariant.2 in
    (omega (arith, l.invariant.0), omega (arith, c.loop-i-test.true), more)

pub returns : goal.returns
returns c = let l = c.loop-i in row_last _ _ _ _ _ l.i (omega arith) l.invariant.1 l.invariant.2
