-- `mf_edge_chain` gives the number of what `edge_chain` gives. Assumes nothing.
use Rattle.chain.specs.Numbers.{incidence_number}
use Rattle.ids.proofs.Lent.{gives_number}
use Rattle.capi.proofs.ids_c.mf_edge_chain.Goals as goal

pub returns : goal.returns
returns c = gives_number incidence_number c.map.result c.edge_chain.ensures c.map.ensures.cases c.answer_number.ensures
