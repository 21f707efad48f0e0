-- `spelling::count_line` meets its contract: label, digits and the end of line, one behind the other. Assumes nothing.
use native.Mathlib.Omega.{arith}
use Rattle.spelling.proofs.Puts.{puts_both}
use borrow.Author.Rules.{rules}
use Rattle.spelling.proofs.count_line.Goals as goal

pub returns : goal.returns
returns c = (
  puts_both c.put-behind.ensures (puts_both c.put_decimal-end.ensures.0 c.put_byte.ensures (search rules)) (search rules),
  omega (arith, c.put_byte.ensures.place, c.put_decimal-end.ensures.1, c.put-behind.ensures.place),
)
