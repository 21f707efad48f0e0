-- `words::put_bytes` meets its contract: the words put and those to come are all. Assumes nothing.
use native.Mathlib.Omega.{arith}
use Rattle.words.proofs.BytesPut.{bytes_none, bytes_next, bytes_all}
use Rattle.words.proofs.put_bytes.Goals as goal

pub loop-i-init : goal.loop-i-init
loop-i-init c = bytes_none _ _

pub loop-i-preserved : goal.loop-i-preserved
loop-i-preserved c =
    let l = c.loop-i in
    rw c.put_u32.ensures (bytes_next _ l.i l.area (omega arith) (omega arith) l.invariant)

pub returns : goal.returns
returns c =
    let l = c.loop-i in
    bytes_all _ l.i l.area (omega arith) (omega arith) l.invariant
