-- The glove (02, A9): rows with the opposite normal, what it means that each row has such a partner, and the areas alone.
use Rattle.std.specs.Prelude.{◌≡◌, List, [], ◌∷◌, ℕ, ◌<◌, Float, length}
use Rattle.ieee.specs.Number.{opposite}
use Rattle.rows.specs.declared.PlanarSurface.{PlanarSurface}
use Rattle.rows.specs.Sorting.{row_at}

-- the same area; each component negated, a 0 staying 0
abbrev pub opposite_row : PlanarSurface → PlanarSurface
opposite_row r = record { area = r.area; nx = opposite r.nx; ny = opposite r.ny; nz = opposite r.nz }

unfoldable pub opposite_rows : List PlanarSurface → List PlanarSurface
opposite_rows [] = []
opposite_rows (r ∷ rs) = opposite_row r ∷ opposite_rows rs

-- each row of l has a partner in m: a row of equal area with the opposite normal
abbrev pub Partnered : List PlanarSurface → List PlanarSurface → Type 0
Partnered l m = (i : ℕ) → i < length l → (j : ℕ) × (j < length m) × (row_at m j ≡ opposite_row (row_at l i))

-- the areas, as the rows stand: rows of equal area may change places without changing these
unfoldable pub areas_of : List PlanarSurface → List Float
areas_of [] = []
areas_of (r ∷ rs) = r.area ∷ areas_of rs
