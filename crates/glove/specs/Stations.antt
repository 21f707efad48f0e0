-- The glove at each station of the road through the definitions: sums, rows and welded ids are turned, all else stays. (`stations`)
use Rattle.std.specs.Prelude.{List, ℕ, T, Float}
use Rattle.std.specs.Float.Ieee.{le}
use Rattle.ieee.specs.Single.{nought}
use Rattle.ids.specs.Reversed.{reversed}
use Rattle.sums.specs.declared.totals.Thresholds.{Thresholds}
use Rattle.sums.specs.Turned.{TurnedTotals}
use Rattle.rows.specs.declared.PlanarSurface.{PlanarSurface}
use Rattle.rows.specs.Rows.{sorted}
use Rattle.rows.specs.Opposite.{opposite_rows}
use Rattle.refusals.specs.Refusals.{Passes}
use Rattle.road.specs.Stations.{Stations}

-- the rows with opposite normals, put in order
abbrev pub turned_rows : List PlanarSurface → List PlanarSurface
turned_rows rows = sorted (opposite_rows rows)

-- for any pair of thresholds of which the first is not below 0; rows are put in order where the mesh passes the checks, under whichever
-- edition; welding asks for nothing
abbrev pub StationsTurn : Type 0
StationsTurn =
    (vs : List Float) (ids : List ℕ) (u : Float) (e : ℕ) (p : Thresholds) → T (le nought p.top)
    → Stations vs vs ids (reversed ids) u p TurnedTotals turned_rows reversed (Passes vs ids u e) (Unit {0})
