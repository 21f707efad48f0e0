-- `program::print_refusal` meets its contract: the text area is long enough. Assumes nothing.
use Rattle.program.proofs.Given.{refusal_prints}
use Rattle.program.proofs.print_refusal.Goals as goal

pub unwrap-requires : goal.unwrap-requires
unwrap-requires c = (refusal_prints _ _ _ _ c.requires c.list_refusal.ensures).0

pub returns : goal.returns
returns c = (refusal_prints _ _ _ _ c.requires c.list_refusal.ensures).1 _ c.unwrap.ensures
