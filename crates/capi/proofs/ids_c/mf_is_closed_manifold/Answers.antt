-- `mf_is_closed_manifold` gives the number of what `is_closed_manifold` gives. Assumes nothing.
use Rattle.ids.specs.Uses.{bit}
use Rattle.ids.proofs.Lent.{gives_number}
use Rattle.capi.proofs.ids_c.mf_is_closed_manifold.Goals as goal

pub returns : goal.returns
returns c = gives_number bit c.map.result c.is_closed_manifold.ensures c.map.ensures.cases c.answer_number.ensures
