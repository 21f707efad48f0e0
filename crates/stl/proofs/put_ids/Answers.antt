-- `stl::put_ids` meets its contract: the ids put so far are their places. Assumes nothing.
use mathlib.Core.Path.{◌≡◌}
use native.Mathlib.Omega.{arith}
use lib.ListN.{length}
use Rattle.stl.proofs.Ids.{numbered_next, numbered_all}
use Rattle.stl.proofs.put_ids.Goals as goal

pub loop-i-init : goal.loop-i-init
loop-i-init c = λ j l. absurd (omega arith)

pub loop-i-preserved : goal.loop-i-preserved
loop-i-preserved c =
    let l = c.loop-i in
    numbered_next l.area l.i (omega arith) l.invariant

pub returns : goal.returns
returns c =
    let l = c.loop-i in
    let long : length l.area ≡ l.i = omega arith in
    rw (← l.auto.area) (numbered_all l.area (omega arith) (rw long l.invariant))
