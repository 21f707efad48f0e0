-- What each verdict says of a mesh (`verdict_means`): of its box and volume, and of the ids that were last used, the given ones if they
-- are boundary-free, else the welded ones.
use Rattle.std.specs.Prelude.{◌≡◌, Bool, true, false, cond, ◌||◌, ◌⊎◌, List, ℕ, ◌≤◌, ◌<◌, Float}
use Rattle.std.specs.Float.Ieee.{le}
use Rattle.ieee.specs.Single.{nought}
use Rattle.ids.specs.EdgeChain.{boundary_free, over_incident}
use Rattle.ids.specs.FaceNet.{max_abs, all_cancel}
use Rattle.weld.specs.Weld.{welded}
use Rattle.verdict.specs.Verdict.{too_large, near_zero, quality}
use Rattle.verdict.specs.declared.Quality.{Quality}
use Rattle.verdict.specs.declared.Quality.TheVariants.{Closed, OpenShell, Degenerate}

-- the ids last used
abbrev pub last_used : List Float → List ℕ → Float → List ℕ
last_used vs ids ε = cond (boundary_free ids) ids (welded vs ids ε)

-- where the faces are asked: the chain last made is over-incident, or the volume is near zero
abbrev pub faces_asked : List ℕ → Bool → Bool
faces_asked used near = over_incident used || near

-- the box has a volume and the mesh no more than 1.001 of it, the ids last used have edges and none is open, and the faces say nothing
-- against it
pub record ClosedSays (used : List ℕ) (volume box : Float) : Type 0 where
  pub has_box : le box nought ≡ false
  pub within_box : too_large volume box ≡ false
  pub boundary_free_lem : boundary_free used ≡ true
  pub one_sided_nowhere : faces_asked used (near_zero volume box) ≡ true → max_abs used < 2
  pub encloses : near_zero volume box ≡ true → all_cancel used ≡ false

-- more than 1.001 of the volume that the box has, or an open edge or no edge at all, or, asked for, a face sum of magnitude 2 and more
pub record OpenSays (used : List ℕ) (volume box : Float) : Type 0 where
  pub has_box : le box nought ≡ false
  pub why : (too_large volume box ≡ true) ⊎ ((boundary_free used ≡ false)
      ⊎ ((faces_asked used (near_zero volume box) ≡ true) × (2 ≤ max_abs used)))

-- near zero, and all face sums are 0
pub record CancelsOut (used : List ℕ) (volume box : Float) : Type 0 where
  pub within_box : too_large volume box ≡ false
  pub boundary_free_lem : boundary_free used ≡ true
  pub near_zero_lem : near_zero volume box ≡ true
  pub cancels : all_cancel used ≡ true

-- no box, or nothing left of it
abbrev pub DegenerateSays : List ℕ → Float → Float → Type 0
DegenerateSays used volume box = (le box nought ≡ true) ⊎ CancelsOut used volume box

-- the verdict is q exactly where P holds
pub record Exactly (verdict q : Quality) (P : Type 0) : Type 0 where
  pub sound : verdict ≡ q → P
  pub complete : P → verdict ≡ q

pub record VerdictMeans (vs : List Float) (ids : List ℕ) (ε volume box : Float) : Type 0 where
  pub closed : Exactly (quality vs ids ε volume box) Closed (ClosedSays (last_used vs ids ε) volume box)
  pub open_shell : Exactly (quality vs ids ε volume box) OpenShell (OpenSays (last_used vs ids ε) volume box)
  pub degenerate : Exactly (quality vs ids ε volume box) Degenerate (DegenerateSays (last_used vs ids ε) volume box)
