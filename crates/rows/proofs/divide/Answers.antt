-- `rows::divide` meets its contract: the loop only swaps rows. Assumes nothing.
use Rattle.std.proofs.Common.{arith, refl, ◌+◌, ◌≤◌, Bool, true, false}
use Rattle.rows.proofs.Counts.{same_rows}
use Rattle.rows.proofs.Sinking.{swap_keeps}
use Rattle.std.specs.Int.{from_bool}
use Rattle.rows.proofs.divide.Goals as goal

one_more : (b : Bool) → from_bool b ≤ 1
one_more true = omega arith
one_more false = omega arith

pub loop-i-init : goal.loop-i-init
loop-i-init c = (omega arith, refl, same_rows)

pub loop-i-preserved : goal.loop-i-preserved
loop-i-preserved c =
    let l = c.loop-i in (
      omega (arith, c.from-n.ensures, one_more c.precedes.result),
      omega (arith, c.swap.auto),
      swap_keeps l.rows (l.last + 1) l.i l.invariant.2 c.swap.ensures (omega arith) (omega arith),
    )
