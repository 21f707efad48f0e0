-- `spelling::put_byte` meets its contract. Assumes nothing.
use Rattle.spelling.proofs.Puts.{puts_byte}
use borrow.Author.Rules.{rules}
use Rattle.spelling.proofs.put_byte.Goals as goal

pub returns : goal.returns
returns c = puts_byte c.args.at c.args.byte c.args.out.now (search rules)
