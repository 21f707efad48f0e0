-- The glove in 02's words, field by field: what the law says of the two records, and of the pairs beside them. (`glove_says`, `pairs_say`)
use Rattle.std.specs.Prelude.{◌≡◌, ◌≢◌}
use Rattle.ieee.specs.Number.{as_number, opposite}
use Rattle.verdict.specs.declared.Quality.{Quality}
use Rattle.record.specs.declared.MeshQto.{MeshQto}
use Rattle.qto.specs.declared.Takeoff.{Takeoff}
use Rattle.road.specs.Agree.{Beside}
use Rattle.glove.specs.Turned.{TurnedRecords}

-- best volume, its method, its trust and the prism bound
pub record SameBest (q q' : MeshQto) : Type 0 where
  pub best : q'.volume_best_m3 ≡ q.volume_best_m3
  pub method : q'.volume_method ≡ q.volume_method
  pub reliable : q'.volume_reliable ≡ q.volume_reliable
  pub prism : q'.volume_prism_bound_m3 ≡ q.volume_prism_bound_m3

pub record GloveSays (q q' : MeshQto) : Type 0 where
  -- negated as a number: 0 stays 0
  pub volume : as_number q'.volume_m3 ≡ opposite q.volume_m3
  -- equal
  pub surface : q'.surface_area_m2 ≡ q.surface_area_m2
  pub side : q'.area_side_m2 ≡ q.area_side_m2
  pub inclined : q'.area_inclined_m2 ≡ q.area_inclined_m2
  pub aabb : q'.aabb_volume_m3 ≡ q.aabb_volume_m3
  pub verdict : q'.mesh_quality ≡ q.mesh_quality
  pub used : q'.triangles_used ≡ q.triangles_used
  pub out_of_range : q'.triangles_out_of_range ≡ q.triangles_out_of_range
  pub sliver : q'.triangles_sliver ≡ q.triangles_sliver
  pub largest : q'.largest_surface_m2 ≡ q.largest_surface_m2
  pub smallest : q'.smallest_surface_m2 ≡ q.smallest_surface_m2
  pub count : q'.surface_count ≡ q.surface_count
  pub profile : q'.profile_invalid ≡ q.profile_invalid
  -- changed places
  pub top : q'.area_top_m2 ≡ q.area_bottom_m2
  pub bottom : q'.area_bottom_m2 ≡ q.area_top_m2
  -- equal too, but for an open shell
  pub unless_open : q.mesh_quality ≢ Quality.OpenShell → SameBest q q'

-- so of any two records that the law speaks of
abbrev pub RecordsSay : Type 0
RecordsSay = (q q' : MeshQto) → TurnedRecords q q' → GloveSays q q'

-- and the pairs beside them are equal, but for an open shell
abbrev pub PairsSay : Type 0
PairsSay = (t t' : Takeoff) → Beside TurnedRecords t t' → t.qto.mesh_quality ≢ Quality.OpenShell → t'.pairs ≡ t.pairs
