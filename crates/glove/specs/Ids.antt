-- The glove for the routines on ids: each answers reversed ids as it answers the ids, and leaves the same in its area. (`ids_unseen`)
use Rattle.std.specs.Prelude.{◌≡◌, List, ℕ}
use Rattle.ids.specs.Reversed.{reversed}
use Rattle.chain.specs.Answers.{EdgeChainGiven, FaceNetGiven, ClosedManifoldGiven, WindingCoherentGiven}
use Rattle.chain.specs.Numbers.{EdgeChainNumbered, FaceNetNumbered, ClosedManifoldNumbered, WindingCoherentNumbered}
use Rattle.pieces.specs.Answer.{PiecesGiven}
use Rattle.pieces.specs.Numbers.{PiecesNumbered}

-- of any two outcomes that a contract allows
abbrev pub Unseen : {A : Type 0} → (List ℕ → List ℕ → A → List ℕ → Type 0) → Type 0
Unseen {A} Given =
    (ids area : List ℕ) (r r' : A) (after after' : List ℕ) → Given ids area r after → Given (reversed ids) area r' after'
    → (r' ≡ r) × (after' ≡ after)

pub record IdsUnseen : Type 0 where
  pub edge_chain : Unseen EdgeChainGiven
  pub face_net : Unseen FaceNetGiven
  pub is_closed_manifold : Unseen ClosedManifoldGiven
  pub winding_coherent : Unseen WindingCoherentGiven
  pub piece_count : Unseen PiecesGiven
  -- and their C forms
  pub mf_edge_chain : Unseen EdgeChainNumbered
  pub mf_face_net : Unseen FaceNetNumbered
  pub mf_is_closed_manifold : Unseen ClosedManifoldNumbered
  pub mf_winding_coherent : Unseen WindingCoherentNumbered
  pub mf_pieces : Unseen PiecesNumbered
