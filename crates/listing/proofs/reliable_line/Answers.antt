-- `listing::reliable_line` meets its contract: either text is the line. Assumes nothing.
use mathlib.Core.Path.{refl}
use native.Mathlib.Omega.{arith}
use Rattle.ids.specs.Uses.{bit}
use Rattle.spelling.specs.Text.{line, decimal_in, glyph}
use Rattle.listing.proofs.reliable_line.Goals as goal

pub returns-then-reliable : goal.returns-then-reliable
unfolding line decimal_in glyph bit
returns-then-reliable c = rw c.if-reliable.true (refl, omega arith)

pub returns-else-reliable : goal.returns-else-reliable
unfolding line decimal_in glyph bit
returns-else-reliable c = rw c.if-reliable.false (refl, omega arith)
