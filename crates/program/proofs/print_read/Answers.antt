-- `program::print_read` meets its contract: by what was read. Assumes nothing.
use Rattle.program.specs.inner.Read.{read_text}
use Rattle.program.proofs.print_read.Goals as goal

pub returns-in-Ok : goal.returns-in-Ok
unfolding read_text
returns-in-Ok c = rw c.in-Ok.is c.print_mesh.ensures

pub returns-in-Err : goal.returns-in-Err
unfolding read_text
returns-in-Err c = rw c.in-Err.is c.print_refusal.ensures
