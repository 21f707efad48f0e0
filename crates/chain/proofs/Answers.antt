-- Each contract leaves one answer and one area. Assumes nothing.
use Rattle.ids.proofs.Lent.{gives_one}
use Rattle.chain.specs.Answers.{EdgeChainOne, FaceNetOne, ClosedManifoldOne, WindingCoherentOne}

pub edge_chain_one : EdgeChainOne
edge_chain_one ids area r r' after after' = gives_one _ _ _ ids area r r' after after'

pub face_net_one : FaceNetOne
face_net_one ids area r r' after after' = gives_one _ _ _ ids area r r' after after'

pub closed_manifold_one : ClosedManifoldOne
closed_manifold_one ids area r r' after after' = gives_one _ _ _ ids area r r' after after'

pub winding_coherent_one : WindingCoherentOne
winding_coherent_one ids area r r' after after' = gives_one _ _ _ ids area r r' after after'
