-- `spelling::put_number` meets its contract: after each turn one digit more is put, before the others. Assumes nothing.
use Rattle.spelling.specs.Text.{bits}
use Rattle.spelling.proofs.Digits.{spelt_none, spelt_more, spelt_all}
use borrow.Author.Rules.{rules}
use Rattle.spelling.proofs.put_number.Goals as goal

pub loop-i-init : goal.loop-i-init
loop-i-init c = spelt_none _ c.bits-rest.result _

pub loop-i-preserved : goal.loop-i-preserved
loop-i-preserved c = spelt_more c.args.at _ c.loop-i.invariant _ c.glyph.ensures (search rules) c.requires

pub returns : goal.returns
unfolding bits
returns c = rw (← c.bits-rest.ensures) (spelt_all _ _ c.loop-i.invariant (search rules))
