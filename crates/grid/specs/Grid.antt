-- A grid of cells over a box, and the cells of a triangle's own box (01, Raster; 000, `footprint_raw`). f32, each step rounded once.
use Rattle.std.specs.Prelude.{ℕ, ◌-◌, ◌*◌, ◌/◌, ◌%◌, min, max, ℤ, pos, negsuc, Float}
use Rattle.std.specs.Float.{binary32}
use Rattle.std.specs.Float.Ieee.{of_bits, to_signed, to_unsigned}
use Rattle.ieee.specs.Order.{least, greatest}
use Rattle.ieee.specs.Integral.{floor, ceiling}
use Rattle.ieee.specs.Single.{◌⊕◌, ◌⊖◌, ◌⊗◌, ◌⊘◌, number}
use Rattle.grid.specs.declared.along.Along.{Along}
use Rattle.grid.specs.declared.Grid.{Grid}

-- 1/2
abbrev pub half : Float
half = of_bits binary32 0x3f00_0000

-- ---- the cells along one axis

-- how many cells of a size a length has: 1 at least, 256 at most
unfoldable pub cells_in : Float → Float → ℕ
cells_in length size = max 1 (min (to_unsigned 64 (ceiling binary32 (length ⊘ size))) 256)

-- the row from x on over a length, its cells near the size that is asked for
unfoldable pub along_of : Float → Float → Float → Along
along_of x length size = record { x = x; w = length ⊘ number (cells_in length size); n = cells_in length size }

-- a whole number brought into 0 .. m
unfoldable pub clamped : ℕ → ℤ → ℕ
clamped m (pos n) = min n m
clamped m (negsuc n) = 0

-- which cell p is in: the first where it lies before them, the last where it lies behind
unfoldable pub cell_along : Along → Float → ℕ
cell_along a p = clamped (a.n - 1) (to_signed 63 (floor binary32 ((p ⊖ a.x) ⊘ a.w)))

-- the first and the last of those of three points
unfoldable pub first_cell : Along → Float → Float → Float → ℕ
first_cell row a b c = cell_along row (least (least a b) c)

unfoldable pub last_cell : Along → Float → Float → Float → ℕ
last_cell row a b c = cell_along row (greatest (greatest a b) c)

-- the centre of cell i
unfoldable pub centre_of : Along → ℕ → Float
centre_of a i = a.x ⊕ (number i ⊕ half) ⊗ a.w

-- ---- both axes

-- the grid from (x, y) on over the lengths w and h
unfoldable pub grid_of : Float → Float → Float → Float → Float → Grid
grid_of x y w h size = record { columns = along_of x w size; rows = along_of y h size }

-- how many cells it has
abbrev pub cells : Grid → ℕ
cells g = g.columns.n * g.rows.n

-- what is said of each cell by its column and its row, said of cell k, which is in column k % n and row k / n
abbrev pub by_cell : {A : Type 0} → Grid → (ℕ → ℕ → A) → ℕ → A
by_cell g says k = says (k % g.columns.n) (k / g.columns.n)
