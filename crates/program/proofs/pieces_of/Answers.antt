-- `program::pieces_of` meets its contract: no more than 1,536 ids and 512 words are never refused. Assumes nothing.
use Rattle.program.proofs.Given.{pieces_counted}
use Rattle.program.proofs.pieces_of.Goals as goal

pub unwrap-requires : goal.unwrap-requires
unwrap-requires c = rw (pieces_counted _ _ _ _ c.requires.0 c.requires.1 c.pieces.ensures)

pub returns : goal.returns
returns c = let given = pieces_counted _ _ _ _ c.requires.0 c.requires.1 c.pieces.ensures in cc
