-- `rows::ahead` meets its contract. The two rows are compared. Assumes nothing.
use Rattle.rows.proofs.ahead.Goals as goal

pub returns : goal.returns
returns c = rw (← c.get.ensures, ← c.get-2.ensures) c.precedes.ensures
