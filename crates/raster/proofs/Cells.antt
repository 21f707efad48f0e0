-- A rim cell is covered, and a grid has 65,536 cells at most. Assumes nothing.
use Rattle.std.proofs.Common.{ℕ, Bool, true, false, cond, ◌||◌, List, le_trans, arith}
use lib.Ieee.{Float, le}
use Rattle.ieee.specs.Single.{nought}
use Rattle.grid.specs.declared.Grid.{Grid}
use Rattle.grid.specs.Grid.{grid_of, cells}
use Rattle.grid.specs.inner.Sized.{GridSized}
use Rattle.grid.proofs.Sizes.{grid_sized}
use Rattle.paint.specs.Covered.{rim}
use Rattle.raster.specs.declared.Footprint.{Footprint}
use Rattle.raster.specs.Cells.{PairFits, CellsFit}
use Rattle.raster.specs.Footprint.{covered_cells, rim_cells, cells_on, footprint_on, no_cells, no_footprint, footprint_over, footprint}
use Rattle.raster.proofs.Counting.{count_most, count_and, few_cells}

on_grid : (vs : List Float) (u v : ℕ) (ids : List ℕ) (g : Grid) → GridSized g → PairFits (cells_on vs u v ids g)
unfolding cells_on covered_cells rim_cells rim
on_grid vs u v ids g sized =
    record { rim_most = count_and _ _ (cells g); covered_most = le_trans (count_most _ (cells g)) (few_cells g sized) }

pub none_fits : PairFits no_cells
none_fits = record { rim_most = omega arith; covered_most = omega arith }

either_fits : (b : Bool) (f : Footprint) → PairFits f.cells → PairFits (cond b no_footprint f).cells
either_fits true f h = none_fits
either_fits false f h = h

over_fits : (vs : List Float) (u v : ℕ) (ids : List ℕ) (x y w h size : Float) → PairFits (footprint_over vs u v ids x y w h size).cells
unfolding footprint_over footprint_on
over_fits vs u v ids x y w h size =
    let g = grid_of x y w h size in
    either_fits (le w nought || (le h nought || le size nought)) (footprint_on vs u v ids g)
    (on_grid vs u v ids g (grid_sized x y w h size))

pub cells_fit : CellsFit
unfolding footprint
cells_fit vs ids s = over_fits vs _ _ ids _ _ _ _ _
