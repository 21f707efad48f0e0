-- `tally::chain_of` meets its contract: the cleared part is an empty table. Assumes nothing.
use Rattle.tally.proofs.Cleared.{empty_edges}
use Rattle.tally.proofs.chain_of.Goals as goal

pub gather_chain-requires : goal.gather_chain-requires
gather_chain-requires c =
    empty_edges _ _ _ c.requires.0 c.clear.auto.work _ c.requires.1 c.rows-n.ensures c.clear.ensures
