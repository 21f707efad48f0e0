-- `chain::net_in` meets its contract: what the net says of the ids is the answer. Assumes nothing.
use Rattle.table.proofs.Words.{leaves}
use borrow.Author.Rules.{rules}
use Rattle.chain.proofs.net_in.Goals as goal

pub returns : goal.returns
returns c =
    let said = c.net_of-said.ensures in
    leaves _ (rw (said.0, said.1)) (search rules) c.clear.ensures
