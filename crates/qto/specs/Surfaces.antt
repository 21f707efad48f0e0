-- What the surface rows are worth (01, Surfaces): they are in order, and they are exactly the keys' sums. (`rows_are`, for every mesh that
-- gets a full record.)
use Rattle.std.specs.Prelude.{◌≡◌, ℕ, List, Float}
use Rattle.ids.specs.Triangles.{triangle_count}
use Rattle.sums.specs.Box.{box, origin}
use Rattle.rows.specs.Rows.{scaled}
use Rattle.rows.specs.Sorting.{InOrder, SameRows}
use Rattle.surfaces.specs.declared.Key.{Key}
use Rattle.surfaces.specs.Surfaces.{rows}
use Rattle.surfaces.specs.Keys.{area_for, has_key, Apart}
use Rattle.walk.specs.Worth.{sum_for, key_among}
use Rattle.refusals.specs.Refusals.{Passes}
use Rattle.qto.specs.Full.{square, buckets, surface_rows}

pub record RowsAre (vs : List Float) (ids : List ℕ) (u : Float) : Type 0 where
  -- no row precedes one in front of it: falling area, then rising nx, ny, nz
  pub in_order : InOrder (surface_rows vs ids u)
  -- they are the buckets as rows, each area times u²: every test passes on as many
  pub same : SameRows (scaled (square u) (rows (buckets vs ids))) (surface_rows vs ids u)
  -- no two buckets have one key
  pub apart : Apart (buckets vs ids)
  -- a key has a bucket just where some used triangle has it
  pub keys : (k : Key) → has_key k (buckets vs ids) ≡ key_among vs (origin (box vs)) ids k (triangle_count ids)
  -- and its area is the sum of the areas of these triangles, in their order
  pub sums : (k : Key) → area_for k (buckets vs ids) ≡ sum_for vs (origin (box vs)) ids k (triangle_count ids)

abbrev pub SurfaceRowsAre : Type 0
SurfaceRowsAre = (vs : List Float) (ids : List ℕ) (u : Float) (e : ℕ) → Passes vs ids u e → RowsAre vs ids u
