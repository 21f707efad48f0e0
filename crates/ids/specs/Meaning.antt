-- What the answers say of every edge and every face, in the words of document 01, and the one statement that each answer is yes exactly
-- where this holds.
use Rattle.std.specs.Prelude.{◌≡◌, Bool, true, List, ℕ, ◌*◌, ◌≤◌, ◌<◌, pos, nat_abs, length}
use Rattle.ids.specs.Uses.{times, uses, signed_sum}
use Rattle.ids.specs.EdgeChain.{Edge, same_edge, chain, enough, proper_edges, boundary_free, over_incident, closed_manifold}
use Rattle.ids.specs.EdgeChain.{winding_coherent}
use Rattle.ids.specs.FaceNet.{Face, same_face, faces, max_abs, all_cancel}

-- yes exactly where P holds
pub record Tells (answer : Bool) (P : Type 0) : Type 0 where
  pub sound : answer ≡ true → P
  pub complete : P → answer ≡ true

-- some edge exists and every sum is 0
pub record BoundaryFree (ids : List ℕ) : Type 0 where
  pub some : (e : Edge) × (0 < uses same_edge e (chain ids))
  pub balanced : (e : Edge) → signed_sum same_edge e (chain ids) ≡ pos 0

-- some edge has more than 2 uses
abbrev pub OverIncident : List ℕ → Type 0
OverIncident ids = (e : Edge) × (2 < uses same_edge e (chain ids))

-- every edge that is used is used twice, once each way
pub record ClosedManifold (ids : List ℕ) : Type 0 where
  pub long_enough : enough (length ids) ≡ true
  pub twice : (e : Edge) → 0 < uses same_edge e (proper_edges ids) → uses same_edge e (proper_edges ids) ≡ 2
  pub each_way : (e : Edge) → signed_sum same_edge e (proper_edges ids) ≡ pos 0

-- every face's sum is 0
abbrev pub AllCancel : List ℕ → Type 0
AllCancel ids = (f : Face) → signed_sum same_face f (faces ids) ≡ pos 0

-- m is the largest magnitude of a face's sum
pub record LargestFaceSum (ids : List ℕ) (m : ℕ) : Type 0 where
  pub above : (f : Face) → nat_abs (signed_sum same_face f (faces ids)) ≤ m
  pub reached : 0 < m → (f : Face) × (nat_abs (signed_sum same_face f (faces ids)) ≡ m)

-- ---- `winding_coherent`

-- a list of just the edges of which P holds, each once
pub record EachOnce (P : Edge → Type 0) (edges : List Edge) : Type 0 where
  pub once : (e : Edge) → P e → times same_edge e edges ≡ 1
  pub only : (e : Edge) → 0 < times same_edge e edges → P e

-- used neither once nor twice, once each way
pub record Incoherent (ids : List ℕ) (e : Edge) : Type 0 where
  pub used : 0 < uses same_edge e (proper_edges ids)
  pub not_once : uses same_edge e (proper_edges ids) ≡ 1 → ⊥
  pub not_paired : uses same_edge e (proper_edges ids) ≡ 2 → signed_sum same_edge e (proper_edges ids) ≡ pos 0 → ⊥

-- some edge exists, and at most one in fifty is incoherent
pub record WindingCoherent (ids : List ℕ) : Type 0 where
  pub long_enough : enough (length ids) ≡ true
  pub edges : List Edge
  pub bad : List Edge
  pub all_edges : EachOnce (λ e. 0 < uses same_edge e (proper_edges ids)) edges
  pub all_bad : EachOnce (Incoherent ids) bad
  pub some : 0 < length edges
  pub few : 50 * length bad ≤ length edges

-- ---- each answer is yes exactly where the above holds (`answers_mean`)
pub record AnswersMean (ids : List ℕ) : Type 0 where
  pub boundary_free_lem : Tells (boundary_free ids) (BoundaryFree ids)
  pub over_incident_lem : Tells (over_incident ids) (OverIncident ids)
  pub closed_manifold_lem : Tells (closed_manifold ids) (ClosedManifold ids)
  pub winding_coherent_lem : Tells (winding_coherent ids) (WindingCoherent ids)
  pub all_cancel_lem : Tells (all_cancel ids) (AllCancel ids)
  pub max_abs_lem : LargestFaceSum ids (max_abs ids)
