-- A record and its rows turned over (02, A9): what the mesh with reversed ids has in their place.
use Rattle.std.specs.Prelude.{◌≡◌, List, ℕ, ◌*◌, take, drop, Float, Result, Ok, Err}
use Rattle.ieee.specs.Number.{as_number, opposite}
use Rattle.ids.specs.declared.refusal.Refusal.{Refusal}
use Rattle.rows.specs.declared.PlanarSurface.{PlanarSurface}
use Rattle.rows.specs.Rows.{rows_of, sorted}
use Rattle.rows.specs.Opposite.{opposite_rows, Partnered, areas_of}
use Rattle.record.specs.declared.MeshQto.{MeshQto}
use Rattle.qto.specs.declared.Takeoff.{Takeoff}
use Rattle.road.specs.Agree.{AgreeRecords}
use Rattle.road.specs.Replaced.{replaced}

-- ---- the record

-- with another volume, top and bottom
abbrev pub sided : Float → Float → Float → MeshQto → MeshQto
sided volume top bottom q =
    replaced volume (record { top = top; bottom = bottom; side = q.area_side_m2; inclined = q.area_inclined_m2 }) q

-- the volume negated, as a number; top and bottom in each other's place; all else as it is
abbrev pub turned_over : MeshQto → MeshQto
turned_over q = sided (opposite q.volume_m3) q.area_bottom_m2 q.area_top_m2 q

-- 0 and -0 are one volume
abbrev pub volume_as_number : MeshQto → MeshQto
volume_as_number q = sided (as_number q.volume_m3) q.area_top_m2 q.area_bottom_m2 q

-- q' is q turned over: an open shell's but for best volume, method, trust and bound, any other whole
abbrev pub TurnedRecords : MeshQto → MeshQto → Type 0
TurnedRecords q q' = AgreeRecords (turned_over q) (volume_as_number q')

-- ---- the rows

-- the first n rows of a surface area
abbrev pub rows_in : ℕ → List Float → List PlanarSurface
rows_in n s = rows_of (take (4 * n) s)

-- n rows in each of two surface areas
pub record TurnedRows (n : ℕ) (s s' : List Float) : Type 0 where
  -- the same rows with opposite normals, put in order
  pub rows : rows_in n s' ≡ sorted (opposite_rows (rows_in n s))
  -- so each surface has a partner of equal area with the opposite normal
  pub partners : Partnered (rows_in n s) (rows_in n s')
  -- and the areas stand as they stood: only rows of equal area may come in another order
  pub areas : areas_of (rows_in n s') ≡ areas_of (rows_in n s)
  -- what is behind the rows is the same
  pub rest : drop (4 * n) s' ≡ drop (4 * n) s

-- by the answer: on a refusal the area is as it was in both
unfoldable pub TurnedArea : Result Takeoff Refusal → List Float → List Float → Type 0
TurnedArea (Err why) s s' = s' ≡ s
TurnedArea (Ok t) s s' = TurnedRows t.qto.surface_count s s'
