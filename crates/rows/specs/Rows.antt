-- Surfaces (01): rows of area, nx, ny and nz, in order; the largest and the smallest.
use Rattle.std.specs.Prelude.{◌≡◌, Bool, false, not, ◌&&◌, ◌||◌, cond, List, [], ◌∷◌, ◌*◌, length, Float}
use Rattle.std.specs.Float.{inf, binary32}
use Rattle.std.specs.Float.Ieee.{lt, of_bits}
use Rattle.ieee.specs.Order.{least}
use Rattle.ieee.specs.Single.{◌⊗◌, nought}
use Rattle.rows.specs.declared.PlanarSurface.{PlanarSurface}

-- ---- rows as floats, four a row

unfoldable pub flatten : List PlanarSurface → List Float
flatten [] = []
flatten (r ∷ rs) = r.area ∷ r.nx ∷ r.ny ∷ r.nz ∷ flatten rs

-- the rows that floats hold; what is left over at the end belongs to none
unfoldable pub rows_of : List Float → List PlanarSurface
rows_of [] = []
rows_of (a ∷ []) = []
rows_of (a ∷ x ∷ []) = []
rows_of (a ∷ x ∷ y ∷ []) = []
rows_of (a ∷ x ∷ y ∷ z ∷ l) = record { area = a; nx = x; ny = y; nz = z } ∷ rows_of l

-- the floats are rows, and none is left over
abbrev pub Whole : List Float → Type 0
Whole t = length t ≡ 4 * length (rows_of t)

-- ---- their order: falling area, then rising nx, ny, nz

-- by the first, or where that is even by the rest
abbrev pub then_by : Bool → Bool → Bool → Bool
then_by less more rest = less || (not more && rest)

unfoldable pub precedes : PlanarSurface → PlanarSurface → Bool
precedes r s =
    then_by (lt s.area r.area) (lt r.area s.area)
    (then_by (lt r.nx s.nx) (lt s.nx r.nx)
    (then_by (lt r.ny s.ny) (lt s.ny r.ny)
    (lt r.nz s.nz)))

unfoldable pub inserted : PlanarSurface → List PlanarSurface → List PlanarSurface
inserted r [] = r ∷ []
inserted r (s ∷ rs) = cond (precedes r s) (r ∷ s ∷ rs) (s ∷ inserted r rs)

unfoldable pub sorted : List PlanarSurface → List PlanarSurface
sorted [] = []
sorted (r ∷ rs) = inserted r (sorted rs)

-- ---- areas

abbrev pub scaled_row : Float → PlanarSurface → PlanarSurface
scaled_row by r = record { area = r.area ⊗ by; nx = r.nx; ny = r.ny; nz = r.nz }

-- each area times u²
unfoldable pub scaled : Float → List PlanarSurface → List PlanarSurface
scaled by [] = []
scaled by (r ∷ rs) = scaled_row by r ∷ scaled by rs

-- the first row's area; 0 without rows
unfoldable pub largest : List PlanarSurface → Float
largest [] = nought
largest (r ∷ rs) = r.area

-- 1e-6
abbrev pub noise : Float
noise = of_bits binary32 0x3586_37bd

-- the least of m and an area, if that is above 1e-6
abbrev pub less_above : Float → Float → Float
less_above m a = cond (lt noise a) (least m a) m

-- the least of m and the areas above 1e-6
unfoldable pub least_above : Float → List PlanarSurface → Float
least_above m [] = m
least_above m (r ∷ rs) = least_above (less_above m r.area) rs

-- the least above 1e-6, else 0
unfoldable pub smallest : List PlanarSurface → Float
smallest rs = cond (lt (least_above (inf false) rs) (inf false)) (least_above (inf false) rs) nought
