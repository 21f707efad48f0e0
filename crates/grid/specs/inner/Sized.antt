-- How many cells a row and a grid have: no loop over them passes 256 a side.
use Rattle.std.specs.Prelude.{◌≤◌, ◌<◌}
use Rattle.grid.specs.declared.along.Along.{Along}
use Rattle.grid.specs.declared.Grid.{Grid}

-- 1 to 256 cells
pub record RowSized (row : Along) : Type 0 where
  pub some : 0 < row.n
  pub few : row.n ≤ 256

-- in each direction
pub record GridSized (g : Grid) : Type 0 where
  pub columns : RowSized g.columns
  pub rows : RowSized g.rows
