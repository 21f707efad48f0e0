-- `program::run` meets its contract: what was read stands first in the two areas, by `read`'s contract. Assumes nothing.
use native.Mathlib.Omega.{arith}
use Rattle.program.proofs.Held.{few_read, text_of_lem}
use Rattle.program.proofs.run.Goals as goal

pub print_read-requires-clause-few : goal.print_read-requires-clause-few
print_read-requires-clause-few c = few_read _ _ (omega arith) (omega arith) _ _ _ _ c.read-found.ensures

pub returns : goal.returns
returns c = rw (← text_of_lem _ _ (omega arith) (omega arith) _ _ _ _ c.read-found.ensures) c.print_read.ensures
