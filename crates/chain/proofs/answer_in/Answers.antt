-- `chain::answer_in` meets its contract: the cleared part is an empty table, and what the table of all uses says is the answer. Assumes
-- nothing.
use mathlib.Core.Path.{ap, ◌∙◌}
use mathlib.Core.Bool.{Bool, ◌&&◌}
use Rattle.table.proofs.Words.{leaves}
use Rattle.chain.proofs.Chain.{emptied_edges}
use borrow.Author.Rules.{rules}
use Rattle.chain.proofs.answer_in.Goals as goal

pub gather-requires : goal.gather-requires
gather-requires g c =
    emptied_edges _ _ _ c.clear.auto.work _ c.requires c.rows-n.ensures c.clear.ensures

pub returns : goal.returns
returns g c =
    let said = c.ask-said.ensures _ c.gather.ensures in
    leaves _ (ap (λ (b : Bool). b && c.ask-said.result) c.enough.ensures ∙ said) (search rules)
    c.clear-2.ensures
