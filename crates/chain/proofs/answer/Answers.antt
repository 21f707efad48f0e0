-- `chain::answer` refuses what `table::admit` refuses. Assumes nothing.
use Rattle.table.proofs.Words.{refuses}
use Rattle.chain.proofs.answer.Goals as goal

pub returns-in_err-admit : goal.returns-in_err-admit
returns-in_err-admit g c = refuses _ c.in_err-admit.ensures.refuses c.from_residual.ensures
