-- `rows::insertion` meets its contract. The first rows are rising, one more each turn. Assumes nothing.
use Rattle.std.proofs.Common.{refl, arith}
use Rattle.rows.proofs.Counts.{same_rows, same_then}
use Rattle.rows.proofs.Fours.{rows_quarter}
use Rattle.rows.proofs.insertion.Goals as goal

pub loop-next-init : goal.loop-next-init
loop-next-init c = (refl, record { same = same_rows; rising = λ k h. absurd (omega arith) })

pub settle-requires : goal.settle-requires
settle-requires c = (omega arith, c.requires, c.loop-next.invariant.1.rising)

pub loop-next-preserved : goal.loop-next-preserved
loop-next-preserved c =
    let l = c.loop-next in
    let m = c.settle in
    (omega (arith, m.auto), record { same = same_then l.invariant.1.same m.ensures.same; rising = m.ensures.rising })

pub returns : goal.returns
returns c =
    let l = c.loop-next in
    record { same = l.invariant.1.same; rising = λ k h. l.invariant.1.rising k (omega (arith, rows_quarter c.args.rows.now)) }
