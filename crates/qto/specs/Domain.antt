-- Domain (01): no sum overflows. What the numbers of a record are for a mesh of the domain. (`computes_finite`, `rows_finite`)
use Rattle.std.specs.Prelude.{◌≡◌, ℕ, T, List, [], ◌∷◌, Float, Option, Result, Ok, Some, None}
use Rattle.std.specs.Float.Ieee.Scale.{finite}
use Rattle.ids.specs.declared.refusal.Refusal.{Refusal}
use Rattle.rows.specs.declared.PlanarSurface.{PlanarSurface}
use Rattle.record.specs.declared.MeshQto.{MeshQto}
use Rattle.refusals.specs.Refusals.{Passes}
use Rattle.qto.specs.declared.Takeoff.{Takeoff}
use Rattle.qto.specs.Full.{surface_rows}
use Rattle.qto.specs.Compute.{Computes}

abbrev pub FiniteBound : Option Float → Type 0
FiniteBound None = Unit {0}
FiniteBound (Some p) = T (finite p)

-- all of them are finite
pub record FiniteRecord (q : MeshQto) : Type 0 where
  pub volume : T (finite q.volume_m3)
  pub aabb : T (finite q.aabb_volume_m3)
  pub surface : T (finite q.surface_area_m2)
  pub top : T (finite q.area_top_m2)
  pub bottom : T (finite q.area_bottom_m2)
  pub side : T (finite q.area_side_m2)
  pub inclined : T (finite q.area_inclined_m2)
  pub largest : T (finite q.largest_surface_m2)
  pub smallest : T (finite q.smallest_surface_m2)
  pub best : T (finite q.volume_best_m3)
  pub prism : FiniteBound q.volume_prism_bound_m3

-- the area of each row is
unfoldable pub FiniteRows : List PlanarSurface → Type 0
FiniteRows [] = Unit {0}
FiniteRows (r ∷ rs) = T (finite r.area) × FiniteRows rs

-- ---- every record that the contract allows, and the rows of every mesh that gets a full one

abbrev pub ComputesFinite : Type 0
ComputesFinite =
    (vs : List Float) (ids : List ℕ) (u : Float) (e : ℕ) (w r : List ℕ) (s : List Float) (a : Result Takeoff Refusal) (w' r' : List ℕ)
    (s' : List Float)
    (t : Takeoff)
    → Computes vs ids u e w r s a w' r' s' → a ≡ Ok t → FiniteRecord t.qto

abbrev pub RowsFinite : Type 0
RowsFinite = (vs : List Float) (ids : List ℕ) (u : Float) (e : ℕ) → Passes vs ids u e → FiniteRows (surface_rows vs ids u)
