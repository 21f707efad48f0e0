-- What a pair's numbers can be (02, A3): no more rim cells than covered ones, and of these 65,536 at most. (`cells_fit`)
use Rattle.std.specs.Prelude.{ℕ, ◌≤◌, List, Float}
use Rattle.vertices.specs.Areas.{raster_bytes}
use Rattle.raster.specs.declared.Pair.{Pair}
use Rattle.raster.specs.declared.Window.{Window}
use Rattle.raster.specs.Footprint.{footprint}

pub record PairFits (p : Pair) : Type 0 where
  pub rim_most : p.rim ≤ p.covered
  pub covered_most : p.covered ≤ raster_bytes

abbrev pub CellsFit : Type 0
CellsFit = (vs : List Float) (ids : List ℕ) (s : Window) → PairFits (footprint vs ids s).cells
