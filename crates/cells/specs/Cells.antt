-- Weld (01; 000, `welded_indices`): the cell of a vertex, and the first vertex in it.
use Rattle.std.specs.Prelude.{ℕ, zero, suc, Bool, ◌&&◌, cond, List, ℤ, Float}
use Rattle.std.specs.Float.{binary64}
use Rattle.std.specs.Float.Ieee.{mul, to_signed}
use Rattle.ieee.specs.SameInteger.{same_integer}
use Rattle.ieee.specs.Integral.{half_away}
use Rattle.vertices.specs.Vertices.{coordinate}

-- the cell of a coordinate: times 1/ε in f64, half away from zero, as an i64
unfoldable pub cell_of : Float → Float → ℤ
cell_of inv x = to_signed 63 (half_away binary64 (mul binary64 x inv))

-- the cell of a vertex
pub record Cell : Type 0 where
  pub x : ℤ
  pub y : ℤ
  pub z : ℤ

unfoldable pub cell_at : List Float → Float → ℕ → Cell
cell_at vs inv v = record { x = cell_of inv (coordinate vs 0 v); y = cell_of inv (coordinate vs 1 v); z = cell_of inv (coordinate vs 2 v) }

unfoldable pub same_cell : Cell → Cell → Bool
same_cell a b = same_integer a.x b.x && (same_integer a.y b.y && same_integer a.z b.z)

-- the first of the n numbers from j on that passes the test, and j + n where none does
unfoldable pub first_that : (ℕ → Bool) → ℕ → ℕ → ℕ
first_that test zero j = j
first_that test (suc n) j = cond (test j) j (first_that test n (suc j))

-- the vertex that names v's cell: the first that has the same
unfoldable pub named : List Float → Float → ℕ → ℕ
named vs inv v = first_that (λ j. same_cell (cell_at vs inv j) (cell_at vs inv v)) v 0
