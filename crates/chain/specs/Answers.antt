-- The complete contracts: for these ids and this area, r is the answer and `after` is what the area holds then.
use Rattle.std.specs.Prelude.{ℕ, ◌*◌, Bool, List, length, Ok, Err, Result}
use Rattle.ids.specs.Triangles.{triangle_count}
use Rattle.ids.specs.EdgeChain.{boundary_free, over_incident, closed_manifold, winding_coherent}
use Rattle.ids.specs.FaceNet.{max_abs, all_cancel}
use Rattle.ids.specs.declared.refusal.Refusal.{Refusal}
use Rattle.ids.specs.Lent.{Gives, OneGiven}
use Rattle.tally.specs.declared.Incidence.{Incidence}
use Rattle.tally.specs.declared.Net.{Net}

-- what the edge chain and the face net answer, each part by its name
abbrev pub incidence_of : List ℕ → Incidence
incidence_of ids = record { boundary_free = boundary_free ids; over_incident = over_incident ids }

abbrev pub net_of : List ℕ → Net
net_of ids = record { max_abs = max_abs ids; all_cancel = all_cancel ids }

abbrev pub EdgeChainGiven : List ℕ → List ℕ → Result Incidence Refusal → List ℕ → Type 0
EdgeChainGiven ids area r after = Gives (4 * length ids) Err (Ok (incidence_of ids)) ids area r after

abbrev pub FaceNetGiven : List ℕ → List ℕ → Result Net Refusal → List ℕ → Type 0
FaceNetGiven ids area r after = Gives (4 * triangle_count ids) Err (Ok (net_of ids)) ids area r after

-- of a routine that answers yes or no
abbrev pub VerdictGiven : (List ℕ → Bool) → List ℕ → List ℕ → Result Bool Refusal → List ℕ → Type 0
VerdictGiven holds ids area r after = Gives (4 * length ids) Err (Ok (holds ids)) ids area r after

abbrev pub ClosedManifoldGiven : List ℕ → List ℕ → Result Bool Refusal → List ℕ → Type 0
ClosedManifoldGiven = VerdictGiven closed_manifold

abbrev pub WindingCoherentGiven : List ℕ → List ℕ → Result Bool Refusal → List ℕ → Type 0
WindingCoherentGiven = VerdictGiven winding_coherent

-- ---- each leaves one answer and one area (`edge_chain_one`, `face_net_one`, `closed_manifold_one`, `winding_coherent_one`)

abbrev pub EdgeChainOne : Type 0
EdgeChainOne = OneGiven EdgeChainGiven

abbrev pub FaceNetOne : Type 0
FaceNetOne = OneGiven FaceNetGiven

abbrev pub ClosedManifoldOne : Type 0
ClosedManifoldOne = OneGiven ClosedManifoldGiven

abbrev pub WindingCoherentOne : Type 0
WindingCoherentOne = OneGiven WindingCoherentGiven
