-- What the parts of the sort keep, and what a pass over rows a gap apart leaves.
use Rattle.std.specs.Prelude.{List, ℕ, ◌+◌, ◌*◌, ◌≤◌, ◌<◌, length, set, get_or, Float}
use Rattle.std.specs.Float.{nan}
use Rattle.rows.specs.declared.PlanarSurface.{PlanarSurface}
use Rattle.rows.specs.Rows.{rows_of, less_above}
use Rattle.rows.specs.Sorting.{row_at, SameRows, Behind}

-- row j is one of the floats' rows
abbrev pub Inside : ℕ → List Float → Type 0
Inside j t = 4 * j + 4 ≤ length t

-- rows i and j have changed places
abbrev pub swapped : List PlanarSurface → ℕ → ℕ → List PlanarSurface
swapped l i j = set (set l i (row_at l j)) j (row_at l i)

-- the floats u hold the rows of t, in some order
abbrev pub Keeps : List Float → List Float → Type 0
Keeps t u = SameRows (rows_of t) (rows_of u)

-- none of the first n rows precedes the one a gap in front of it
abbrev pub Rising : ℕ → ℕ → List PlanarSurface → Type 0
Rising gap n l = (k : ℕ) → k + gap < n → Behind l (k + gap) k

-- the same rows, and the first n of them rising
pub record AfterPass (gap n : ℕ) (t u : List Float) : Type 0 where
  pub same : Keeps t u
  pub rising : Rising gap n (rows_of u)

-- the least of m and a row's area, if that is above 1e-6: the row as four floats
abbrev pub least_four : Float → List Float → Float
least_four m row = less_above m (get_or row 0 nan)
