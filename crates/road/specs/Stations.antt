-- The road of a mesh through the definitions: what is seen of a second mesh at each station is what is seen of the first, as it is or
-- turned. Demand 3 and the glove are said so, each with its own premise and its own turns.
use Rattle.std.specs.Prelude.{◌≡◌, List, ◌++◌, ℕ, ◌*◌, length, drop, Float}
use Rattle.ids.specs.Lent.{cleared}
use Rattle.vertices.specs.Areas.{work_words}
use Rattle.sums.specs.declared.totals.Thresholds.{Thresholds}
use Rattle.sums.specs.declared.totals.Totals.{Totals}
use Rattle.sums.specs.Box.{box, origin, box_volume}
use Rattle.rows.specs.declared.PlanarSurface.{PlanarSurface}
use Rattle.rows.specs.Rows.{flatten}
use Rattle.walk.specs.Counts.{counts_of}
use Rattle.weld.specs.Weld.{epsilon_of, welded}
use Rattle.refusals.specs.Refusals.{check_of}
use Rattle.qto.specs.Full.{cube, totals, surface_rows, surfaces_after, measures, distance, verdict}

-- rows in front of an area
abbrev pub rows_in_front : List PlanarSurface → List Float → List Float
rows_in_front rows area = flatten rows ++ drop (4 * length rows) area

-- The floats vs and vs', the ids and ids'; how the sums of the second stand to those of the first, and what becomes of rows and of welded
-- ids. One pair of thresholds p for both, whichever it is. Where rows can be put in order, and where welding is well behaved, is asked for
-- at these stations alone.
pub record Stations (vs vs' : List Float) (ids ids' : List ℕ) (u : Float) (p : Thresholds) (Sums : Totals → Totals → Type 0)
    (turnRows : List PlanarSurface → List PlanarSurface) (turnIds : List ℕ → List ℕ) (Orderly Weldable : Type 0) : Type 0 where
  -- what the table of refusals says, of every edition
  pub checks : (e w r s : ℕ) → check_of vs' ids' u e w r s ≡ check_of vs ids u e w r s
  -- the box's volume; its corners may show the place
  pub box_volume_lem : box_volume (box vs') (cube u) ≡ box_volume (box vs) (cube u)
  -- corners are rebased by the box, and all else is made of them
  pub sums : Sums (totals vs ids p) (totals vs' ids' p)
  pub rows : Orderly → surface_rows vs' ids' u ≡ turnRows (surface_rows vs ids u)
  pub counts : counts_of vs' (origin (box vs')) ids' ≡ counts_of vs (origin (box vs)) ids
  -- the weld's cells may show the place; which vertex names one does not
  pub weld : Weldable → welded vs' ids' (epsilon_of distance u) ≡ turnIds (welded vs ids (epsilon_of distance u))
  pub quality : Weldable → verdict vs' ids' u (measures vs' ids' u p).volume ≡ verdict vs ids u (measures vs ids u p).volume
  -- what stands in the surface area afterwards: the rows, and behind them what stood there; and in the work area
  pub surfaces : Orderly → (area : List Float) → surfaces_after vs' ids' u area ≡ rows_in_front (turnRows (surface_rows vs ids u)) area
  pub work : (area : List ℕ) → cleared (work_words (length vs') (length ids')) area ≡ cleared (work_words (length vs) (length ids)) area
