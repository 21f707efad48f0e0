-- Raster (01; 000, `footprint_raw`): how much ground a mesh covers, seen along the axis that is neither u nor v; how many cells that is,
-- and how many of them are on the rim (02, A3). f32, not rebased, each step rounded once.
use Rattle.std.specs.Prelude.{ℕ, zero, suc, ◌+◌, Bool, cond, ◌||◌, List, from_bits, Float}
use Rattle.std.specs.Float.{binary32}
use Rattle.std.specs.Float.Ieee.{le}
use Rattle.ieee.specs.Order.{greatest}
use Rattle.ieee.specs.Single.{◌⊗◌, ◌⊘◌, nought, number, extent}
use Rattle.ids.specs.Uses.{bit}
use Rattle.vertices.specs.declared.Axis.{Axis}
use Rattle.vertices.specs.Vertices.{axis_number}
use Rattle.grid.specs.declared.Grid.{Grid}
use Rattle.grid.specs.Grid.{grid_of, cells, by_cell}
use Rattle.paint.specs.Covered.{covered, rim}
use Rattle.raster.specs.declared.Footprint.{Footprint}
use Rattle.raster.specs.declared.Pair.{Pair}
use Rattle.raster.specs.declared.Window.{Window}

abbrev pub window_of : Axis → Axis → Float → Float → Float → Float → Window
window_of u v xmin xmax ymin ymax = record { u = u; v = v; xmin = xmin; xmax = xmax; ymin = ymin; ymax = ymax }

-- ---- covered cells and rim cells

-- of how many numbers below n does f hold?
unfoldable pub count : (ℕ → Bool) → ℕ → ℕ
count f zero = 0
count f (suc n) = count f n + bit (f n)

-- how many cells are covered
unfoldable pub covered_cells : List Float → ℕ → ℕ → Grid → List ℕ → ℕ
covered_cells vs u v g ids = count (by_cell g (covered vs u v g ids)) (cells g)

-- and how many are on the rim
unfoldable pub rim_cells : List Float → ℕ → ℕ → Grid → List ℕ → ℕ
rim_cells vs u v g ids = count (by_cell g (rim vs u v g ids)) (cells g)

unfoldable pub cells_on : List Float → ℕ → ℕ → List ℕ → Grid → Pair
cells_on vs u v ids g = record { covered = covered_cells vs u v g ids; rim = rim_cells vs u v g ids }

-- ---- the footprint

-- the number of covered cells times their width times their height
unfoldable pub area_on : List Float → ℕ → ℕ → List ℕ → Grid → Float
area_on vs u v ids g = number (covered_cells vs u v g ids) ⊗ g.columns.w ⊗ g.rows.w

unfoldable pub footprint_on : List Float → ℕ → ℕ → List ℕ → Grid → Footprint
footprint_on vs u v ids g = record { area = area_on vs u v ids g; cells = cells_on vs u v ids g }

abbrev pub no_cells : Pair
no_cells = record { covered = 0; rim = 0 }

abbrev pub no_footprint : Footprint
no_footprint = record { area = nought; cells = no_cells }

-- over a box that is w long and h long; none where it has no length or no cells
unfoldable pub footprint_over : List Float → ℕ → ℕ → List ℕ → Float → Float → Float → Float → Float → Footprint
footprint_over vs u v ids x y w h size =
    cond (le w nought || (le h nought || le size nought)) no_footprint (footprint_on vs u v ids (grid_of x y w h size))

-- the longer side has 256 cells
abbrev pub cell_size : Float → Float → Float
cell_size w h = greatest w h ⊘ from_bits binary32 0x4380_0000

-- in a window
unfoldable pub footprint : List Float → List ℕ → Window → Footprint
footprint vs ids s =
    let w = extent s.xmin s.xmax in
    let h = extent s.ymin s.ymax in
    footprint_over vs (axis_number s.u) (axis_number s.v) ids s.xmin s.ymin w h (cell_size w h)
