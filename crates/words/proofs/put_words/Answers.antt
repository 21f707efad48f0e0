-- `words::put_words` meets its contract: the words put and those to come are the payload's. Assumes nothing.
use native.Mathlib.Omega.{arith}
use Rattle.words.proofs.Words.{put_none, put_next, put_all}
use Rattle.words.proofs.put_words.Goals as goal

pub loop-i-init : goal.loop-i-init
loop-i-init g c = put_none g.U.FromWord.of_word _ _

pub loop-i-preserved : goal.loop-i-preserved
loop-i-preserved g c =
    let l = c.loop-i in
    rw c.from_word.ensures (put_next g.U.FromWord.of_word _ l.i l.area _ (omega arith) (omega arith) c.u32_at.ensures l.invariant)

pub returns : goal.returns
returns g c =
    let l = c.loop-i in
    put_all g.U.FromWord.of_word _ l.i l.area (omega arith) (omega arith) l.invariant
