-- A row of cells over a length, and so a grid over a box, has 1 to 256 cells a side. Assumes nothing.
use Prim.Native.Nat.{◌≤◌, ◌<◌}
use Rattle.std.proofs.Common.{lit≤}
use Rattle.std.proofs.Math.Nat.{le-max_left, max-le, min-le_right}
use lib.Ieee.{Float}
use Rattle.grid.specs.Grid.{cells_in, along_of, grid_of}
use Rattle.grid.specs.inner.Sized.{RowSized, GridSized}

pub cells_some : (length size : Float) → 0 < cells_in length size
unfolding cells_in
cells_some length size = le-max_left 1 _

pub cells_few : (length size : Float) → cells_in length size ≤ 256
unfolding cells_in
cells_few length size = max-le (lit≤ tt) (min-le_right _ 256)

pub row_sized : (x length size : Float) → RowSized (along_of x length size)
unfolding along_of
row_sized x length size = record { some = cells_some length size; few = cells_few length size }

pub grid_sized : (x y w h size : Float) → GridSized (grid_of x y w h size)
unfolding grid_of
grid_sized x y w h size = record { columns = row_sized x w size; rows = row_sized y h size }
