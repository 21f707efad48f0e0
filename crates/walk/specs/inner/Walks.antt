-- What a walk over the triangles asks, what it gives and what it leaves.
use Rattle.std.specs.Prelude.{◌≡◌, ℕ, ◌*◌, ◌≤◌, ◌<◌, List, ◌++◌, T, length, drop, Float}
use Rattle.ids.specs.Lent.{most_entries}
use Rattle.ids.specs.Triangles.{triangle_count}
use Rattle.sums.specs.declared.totals.Thresholds.{Thresholds}
use Rattle.sums.specs.Fine.{all_fine}
use Rattle.sums.specs.Totals.{totals_to}
use Rattle.rows.specs.Rows.{flatten}
use Rattle.surfaces.specs.Surfaces.{Bucket, rows}
use Rattle.walk.specs.declared.Walked.{Walked}
use Rattle.walk.specs.Walk.{buckets_to}
use Rattle.walk.specs.inner.Counting.{part_counts}

-- a mesh that has passed the refusals, and room for its rows: t for their index, u for the rows themselves
pub record Walkable (vs : List Float) (ids t : List ℕ) (u : List Float) : Type 0 where
  pub fine : T (all_fine vs)
  pub few : length ids ≤ most_entries
  pub some : 0 < triangle_count ids
  pub words : length t ≡ 5 * triangle_count ids
  pub room : 4 * triangle_count ids ≤ length u

-- the surface area s with rows first
abbrev pub with_rows : List Bucket → List Float → List Float
with_rows bs s = flatten (rows bs) ++ drop (4 * length bs) s

-- r are the sums and counts over all triangles, and u is the surface area s with their rows first
pub record Walks (vs o : List Float) (p : Thresholds) (ids : List ℕ) (s : List Float) (r : Walked) (u : List Float) : Type 0 where
  pub totals : r.totals ≡ totals_to vs o p ids (triangle_count ids)
  pub count : r.rows ≡ length (buckets_to vs o ids (triangle_count ids))
  pub few : r.rows ≤ triangle_count ids
  pub surfaces : u ≡ with_rows (buckets_to vs o ids (triangle_count ids)) s
  pub counts : r.counts ≡ part_counts vs o ids
