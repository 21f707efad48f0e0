-- `refusals::all_fine` meets its contract: what is found of the floats in front, and the rest, make up the answer. Assumes nothing.
use mathlib.Core.Path.{ap}
use lib.Ieee.{Float, binary32, le, of_bits}
use Rattle.refusals.proofs.Scan.{fine_next, fine_end}
use native.Mathlib.Omega.{arith}
use Rattle.refusals.proofs.all_fine.Goals as goal

pub loop-x-preserved : goal.loop-x-preserved
loop-x-preserved c =
    let l = c.loop-x in
    fine_next c.args.vertices.now l.x-index l.fine _ _ (omega arith)
    (ap (λ (y : Float). le y (of_bits binary32 0x5000_0000)) c.magnitude-size.ensures) l.invariant

pub returns : goal.returns
returns c = fine_end c.args.vertices.now c.loop-x.x-index c.loop-x.fine _ (omega arith) c.loop-x.invariant
