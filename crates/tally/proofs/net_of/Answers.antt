-- `tally::net_of` meets its contract: the cleared part is an empty table. Assumes nothing.
use Rattle.tally.proofs.Cleared.{empty_faces}
use Rattle.tally.proofs.net_of.Goals as goal

pub gather-requires : goal.gather-requires
gather-requires c = empty_faces _ _ _ c.requires.0 c.clear.auto.work c.requires.1 c.clear.ensures
