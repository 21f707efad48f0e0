-- `chain::chain_in` meets its contract: what the chain says of the ids is the answer. Assumes nothing.
use Rattle.table.proofs.Words.{leaves}
use borrow.Author.Rules.{rules}
use Rattle.chain.proofs.chain_in.Goals as goal

pub returns : goal.returns
returns c =
    let said = c.chain_of-said.ensures in
    leaves _ (rw (said.0, said.1)) (search rules) c.clear.ensures
