-- What the bytes of a raster say while triangles are painted: one byte a cell, the greatest number of where it lies by the triangles so
-- far.
use Rattle.std.specs.Prelude.{◌≡◌, ℕ, zero, suc, ◌<◌, max, Bool, cond, List, Float, length, get_or}
use Rattle.ids.specs.Triangles.{triangle, triangle_count}
use Rattle.grid.specs.declared.Flat.{Flat}
use Rattle.grid.specs.declared.Grid.{Grid}
use Rattle.grid.specs.Point.{place_number}
use Rattle.paint.specs.Covered.{centre_lies, lies}

-- n if b holds, else 0
abbrev pub only_if : Bool → ℕ → ℕ
only_if b n = cond b n 0

-- the number of where the centre of the cell in column i and row j lies by a triangle in the plane
unfoldable pub centre_number : Grid → Flat → ℕ → ℕ → ℕ
centre_number g t i j = place_number (centre_lies g t i j)

-- the greatest of the numbers f 0 .. f (n - 1)
unfoldable pub most_of : (ℕ → ℕ) → ℕ → ℕ
most_of f zero = 0
most_of f (suc n) = max (most_of f n) (f n)

-- the greatest number of the cell in column i and row j by the triangles of the mesh
unfoldable pub cell_number : List Float → ℕ → ℕ → Grid → List ℕ → ℕ → ℕ → ℕ
cell_number vs u v g ids i j = most_of (λ t. place_number (lies vs u v g (triangle ids t) i j)) (triangle_count ids)

-- each byte of t is that of s, or what h says of its cell where that is greater
pub record Adds (s t : List ℕ) (h : ℕ → ℕ) : Type 0 where
  pub long : length t ≡ length s
  pub says : (k : ℕ) → k < length s → get_or t k 0 ≡ max (get_or s k 0) (h k)
