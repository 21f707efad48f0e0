-- What agrees of two outcomes: two records but for what the documents except of an open shell, the pairs beside them, two answers, the
-- areas afterwards.
use Rattle.std.specs.Prelude.{◌≡◌, Bool, List, ℕ, Float, Option, Result, Ok, Err}
use Rattle.ids.specs.declared.refusal.Refusal.{Refusal}
use Rattle.verdict.specs.declared.Quality.{Quality}
use Rattle.volume.specs.declared.Pairs.{Pairs}
use Rattle.record.specs.declared.ProfileDefect.{ProfileDefect}
use Rattle.record.specs.declared.MeshQto.{MeshQto}
use Rattle.record.specs.Flags.{flagged}
use Rattle.record.specs.Numbers.{prism_number}
use Rattle.qto.specs.declared.Takeoff.{Takeoff}

-- all of a record but best volume, its method, its trust and the prism bound
pub record AgreeButBest (q q' : MeshQto) : Type 0 where
  pub volume : q'.volume_m3 ≡ q.volume_m3
  pub aabb : q'.aabb_volume_m3 ≡ q.aabb_volume_m3
  pub surface : q'.surface_area_m2 ≡ q.surface_area_m2
  pub top : q'.area_top_m2 ≡ q.area_top_m2
  pub bottom : q'.area_bottom_m2 ≡ q.area_bottom_m2
  pub side : q'.area_side_m2 ≡ q.area_side_m2
  pub inclined : q'.area_inclined_m2 ≡ q.area_inclined_m2
  pub largest : q'.largest_surface_m2 ≡ q.largest_surface_m2
  pub smallest : q'.smallest_surface_m2 ≡ q.smallest_surface_m2
  pub count : q'.surface_count ≡ q.surface_count
  pub profile : q'.profile_invalid ≡ q.profile_invalid
  pub used : q'.triangles_used ≡ q.triangles_used
  pub out_of_range : q'.triangles_out_of_range ≡ q.triangles_out_of_range
  pub sliver : q'.triangles_sliver ≡ q.triangles_sliver
  -- the bound itself may differ, but it is a number in both or in neither
  pub bounded : prism_number q'.volume_prism_bound_m3 ≡ prism_number q.volume_prism_bound_m3

-- by the verdict: an open mesh's record but for these four, any other whole
unfoldable pub AgreeBy : Quality → MeshQto → MeshQto → Type 0
AgreeBy Quality.Closed q q' = q' ≡ q
AgreeBy Quality.Degenerate q q' = q' ≡ q
AgreeBy Quality.OpenShell q q' = AgreeButBest q q'

pub record AgreeRecords (q q' : MeshQto) : Type 0 where
  pub verdict : q'.mesh_quality ≡ q.mesh_quality
  pub rest : AgreeBy q.mesh_quality q q'

-- the same flags keep that (`flags_keep`)
abbrev pub FlagsKeep : Type 0
FlagsKeep =
    (clip : Bool) (profile : Option ProfileDefect) (q q' : MeshQto) → AgreeRecords q q' → AgreeRecords (flagged clip profile q)
    (flagged clip profile q')

-- the pairs, by the verdict: those of an open mesh may differ, all of them; of any other mesh they are the same
unfoldable pub AgreePairs : Quality → Pairs → Pairs → Type 0
AgreePairs Quality.Closed p p' = p' ≡ p
AgreePairs Quality.Degenerate p p' = p' ≡ p
AgreePairs Quality.OpenShell p p' = Unit {0}

-- two records that stand to each other as R says, with pairs that agree beside them
pub record Beside (R : MeshQto → MeshQto → Type 0) (t t' : Takeoff) : Type 0 where
  pub records : R t.qto t'.qto
  pub pairs : AgreePairs t.qto.mesh_quality t.pairs t'.pairs

-- one refusal twice, or two records that stand to each other as R says, each with its pairs
unfoldable pub AgreeAnswers : (Takeoff → Takeoff → Type 0) → Result Takeoff Refusal → Result Takeoff Refusal → Type 0
AgreeAnswers R (Err why) (Err why') = why' ≡ why
AgreeAnswers R (Ok t) (Ok t') = R t t'
AgreeAnswers R (Err why) (Ok t) = ⊥
AgreeAnswers R (Ok t) (Err why) = ⊥

-- the answers, and what stands in work area, raster and surface area afterwards; of the surface area S says it, by the answer
pub record Agree (R : Takeoff → Takeoff → Type 0) (S : Result Takeoff Refusal → List Float → List Float → Type 0)
    (a a' : Result Takeoff Refusal) (w w' r r' : List ℕ)
    (s s' : List Float) : Type 0 where
  pub answers : AgreeAnswers R a a'
  pub work : w' ≡ w
  pub raster : r' ≡ r
  pub surfaces : S a s s'

-- whatever the answer is, the surface area is the same
abbrev pub SameArea : Result Takeoff Refusal → List Float → List Float → Type 0
SameArea a s s' = s' ≡ s
