-- Which cells of a grid a mesh covers (01, Raster; 000, `footprint_raw`), and which of these are on the rim (02, A3), seen along the axis
-- that is neither u nor v.
use Rattle.std.specs.Prelude.{◌≡◌, ◌≢◌, ℕ, zero, suc, ◌<◌, Bool, true, false, not, ◌&&◌, ◌||◌, cond, List, leb, Float}
use Rattle.ids.specs.Triangles.{Triangle, triangle, triangle_count}
use Rattle.vertices.specs.Vertices.{coordinate, corners_in_range}
use Rattle.grid.specs.declared.Point.{Point}
use Rattle.grid.specs.declared.Flat.{Flat}
use Rattle.grid.specs.declared.Grid.{Grid}
use Rattle.grid.specs.declared.Place.{Place}
use Rattle.grid.specs.Point.{place, not_outside, is_inside, counts}
use Rattle.grid.specs.Grid.{first_cell, last_cell, centre_of}

-- ---- one triangle, on the axes u and v

abbrev pub point : List Float → ℕ → ℕ → ℕ → Point
point vs u v id = record { x = coordinate vs u id; y = coordinate vs v id }

abbrev pub flat : List Float → ℕ → ℕ → Triangle → Flat
flat vs u v t = record { a = point vs u v t.a; b = point vs u v t.b; c = point vs u v t.c }

-- is i from lo to hi?
unfoldable pub between : ℕ → ℕ → ℕ → Bool
between lo hi i = leb lo i && leb i hi

-- is column i, is row j in the triangle's box of cells, clamped into the grid?
unfoldable pub in_columns : Grid → Flat → ℕ → Bool
in_columns g t i =
    between (first_cell g.columns t.a.x t.b.x t.c.x) (last_cell g.columns t.a.x t.b.x t.c.x) i

unfoldable pub in_rows : Grid → Flat → ℕ → Bool
in_rows g t j = between (first_cell g.rows t.a.y t.b.y t.c.y) (last_cell g.rows t.a.y t.b.y t.c.y) j

-- where the centre of the cell in column i and row j lies by the triangle
unfoldable pub centre_lies : Grid → Flat → ℕ → ℕ → Place
centre_lies g t i j = place (record { x = centre_of g.columns i; y = centre_of g.rows j }) t

-- where the cell lies by a triangle in the plane: where its centre does, if the triangle counts and the cell is in its box; else outside
unfoldable pub cell_lies : Grid → Flat → ℕ → ℕ → Place
cell_lies g t i j = cond (counts t && (in_rows g t j && in_columns g t i)) (centre_lies g t i j) Place.Outside

-- by a triangle of the mesh: outside where an id is out of range
unfoldable pub lies : List Float → ℕ → ℕ → Grid → Triangle → ℕ → ℕ → Place
lies vs u v g t i j = cond (corners_in_range vs t) (cell_lies g (flat vs u v t) i j) Place.Outside

-- ---- all triangles

-- does f hold of some number below n?
unfoldable pub some : (ℕ → Bool) → ℕ → Bool
some f zero = false
some f (suc n) = some f n || f n

-- is there a triangle by which the cell in column i and row j lies as is asked?
abbrev pub some_lies : (Place → Bool) → List Float → ℕ → ℕ → Grid → List ℕ → ℕ → ℕ → Bool
some_lies asked vs u v g ids i j = some (λ t. asked (lies vs u v g (triangle ids t) i j)) (triangle_count ids)

-- is it covered? Some triangle has it not outside
unfoldable pub covered : List Float → ℕ → ℕ → Grid → List ℕ → ℕ → ℕ → Bool
covered vs u v g ids i j = some_lies not_outside vs u v g ids i j

-- is it on the rim? It is covered, and inside no triangle
unfoldable pub rim : List Float → ℕ → ℕ → Grid → List ℕ → ℕ → ℕ → Bool
rim vs u v g ids i j = covered vs u v g ids i j && not (some_lies is_inside vs u v g ids i j)

-- ---- that is to say

-- some triangle of the list has it inside or on an edge (`covered_tells`, `covered_told`)
pub record Covered (vs : List Float) (u v : ℕ) (g : Grid) (ids : List ℕ) (i j : ℕ) : Type 0 where
  pub number : ℕ
  pub within : number < triangle_count ids
  pub by : not_outside (lies vs u v g (triangle ids number) i j) ≡ true

-- some triangle has it on an edge, and none inside (`rim_tells`, `rim_told`)
pub record OnRim (vs : List Float) (u v : ℕ) (g : Grid) (ids : List ℕ) (i j : ℕ) : Type 0 where
  pub number : ℕ
  pub within : number < triangle_count ids
  pub by : lies vs u v g (triangle ids number) i j ≡ Place.OnEdge
  pub none : (t : ℕ) → t < triangle_count ids → lies vs u v g (triangle ids t) i j ≢ Place.Inside
