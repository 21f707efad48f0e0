-- `program::run_stl` meets its contract: what was read stands first in the two areas, by `stl::read`'s contract. Assumes nothing.
use native.Mathlib.Omega.{arith}
use Rattle.program.proofs.StlHeld.{few_found, few_read, text_of_lem}
use Rattle.program.proofs.run_stl.Goals as goal

pub map-found-requires : goal.map-found-requires
map-found-requires c = few_found _ _ _ (omega arith) (omega arith) _ _ _ c.read.ensures

pub print_read-requires-clause-few : goal.print_read-requires-clause-few
print_read-requires-clause-few c = few_read _ _ _ (omega arith) (omega arith) _ _ _ c.read.ensures _ c.map-found.ensures.cases

pub returns : goal.returns
returns c =
    rw (← text_of_lem _ _ _ (omega arith) (omega arith) _ _ _ c.read.ensures _ c.map-found.ensures.cases) c.print_read.ensures
