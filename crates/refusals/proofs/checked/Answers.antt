-- `refusals::checked` meets its contract: the first row of the table that applies. Assumes nothing.
use lib.ListN.{length}
use Rattle.refusals.proofs.Checks.{both_small}
use Rattle.refusals.proofs.checked.Goals as goal

pub areas_short-short-requires : goal.areas_short-short-requires
areas_short-short-requires c = both_small (length c.args.vertices.now) (length c.args.indices.now) c.if-f-i.false
