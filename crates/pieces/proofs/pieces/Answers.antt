-- `pieces::pieces` refuses what `table::admit` refuses. Assumes nothing.
use Rattle.table.proofs.Words.{refuses}
use Rattle.pieces.proofs.pieces.Goals as goal

pub returns-in_err-admit : goal.returns-in_err-admit
returns-in_err-admit c = refuses _ c.in_err-admit.ensures.refuses c.from_residual.ensures
