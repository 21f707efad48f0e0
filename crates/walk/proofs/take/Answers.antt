-- `walk::take` meets its contract: by the part that is prepared. Assumes nothing.
use native.Mathlib.Omega.{arith}
use borrow.Author.Tests.{not-true, not-false}
use Rattle.walk.proofs.Turns.{takes_out, takes_sliver, takes_used}
use Rattle.walk.proofs.take.Goals as goal

pub returns-then-not-p : goal.returns-then-not-p
returns-then-not-p c = takes_out _ _ c.args.p _ (not-true _ c.if-not-p.true)

pub overflow_add-s : goal.overflow_add-s
overflow_add-s c = record { fits = omega (arith, c.requires.sliver) }

pub returns-then-p : goal.returns-then-p
returns-then-p c =
    takes_sliver _ _ c.args.p _ (not-false _ c.if-not-p.false) c.if-p.true

pub overflow_add-used : goal.overflow_add-used
overflow_add-used c = record { fits = omega (arith, c.requires.used) }

pub put_normal-n-requires : goal.put_normal-n-requires
put_normal-n-requires c = c.requires.row

pub returns : goal.returns
returns c =
    takes_used _ _ c.args.p _ _ _ _ _ _ (not-false _ c.if-not-p.false) c.if-p.false
    c.facet_by-f.ensures c.put_normal-n.ensures c.add.ensures
