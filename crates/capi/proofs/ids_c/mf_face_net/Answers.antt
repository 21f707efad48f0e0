-- `mf_face_net` gives the number of what `face_net` gives. Assumes nothing.
use Rattle.ids.proofs.Lent.{gives_number}
use Rattle.chain.specs.Numbers.{net_number}
use Rattle.chain.proofs.Numbers.{net_small}
use Rattle.capi.proofs.ids_c.mf_face_net.Goals as goal

pub map-requires : goal.map-requires
map-requires c = net_small c.face_net.ensures

pub returns : goal.returns
returns c = gives_number net_number c.map.result c.face_net.ensures c.map.ensures.cases c.answer_number.ensures
