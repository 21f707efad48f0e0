-- `mf_winding_coherent` gives the number of what `winding_coherent` gives. Assumes nothing.
use Rattle.ids.specs.Uses.{bit}
use Rattle.ids.proofs.Lent.{gives_number}
use Rattle.capi.proofs.ids_c.mf_winding_coherent.Goals as goal

pub returns : goal.returns
returns c = gives_number bit c.map.result c.winding_coherent.ensures c.map.ensures.cases c.answer_number.ensures
