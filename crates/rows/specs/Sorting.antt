-- What it means that rows are put in order: they are the same rows, counted, and none precedes one in front of it. Where the rows are
-- plain and of binary32 that leaves one list only, `sorted` (the theorems of the proofs' file `Order`).
use Rattle.std.specs.Prelude.{◌≡◌, Bool, true, false, ◌&&◌, cond, List, [], ◌∷◌, ℕ, ◌+◌, ◌<◌, T, length, get_or}
use Rattle.std.specs.Float.{nan, binary32}
use Rattle.std.specs.Float.Ieee.{fits}
use Rattle.rows.specs.declared.PlanarSurface.{PlanarSurface}
use Rattle.rows.specs.Rows.{precedes, sorted}
use Rattle.rows.specs.Plain.{all_plain}

-- what stands past the end
abbrev pub no_row : PlanarSurface
no_row = record { area = nan; nx = nan; ny = nan; nz = nan }

abbrev pub row_at : List PlanarSurface → ℕ → PlanarSurface
row_at l i = get_or l i no_row

-- ---- the same rows

-- how many rows pass a test
unfoldable pub passing : (PlanarSurface → Bool) → List PlanarSurface → ℕ
passing p [] = 0
passing p (r ∷ rs) = cond (p r) 1 0 + passing p rs

-- every test passes on as many rows of m as of l
pub record SameRows (l m : List PlanarSurface) : Type 0 where
  pub long : length m ≡ length l
  pub counted : (p : PlanarSurface → Bool) → passing p m ≡ passing p l

-- ---- in order

-- row i does not precede row k
abbrev pub Behind : List PlanarSurface → ℕ → ℕ → Type 0
Behind l i k = precedes (row_at l i) (row_at l k) ≡ false

-- no row precedes any in front of it
abbrev pub InOrder : List PlanarSurface → Type 0
InOrder l = (i j : ℕ) → i < j → j < length l → Behind l j i

-- ---- the theorems

-- the row's floats are of binary32, as all floats of a lent f32 slice are
abbrev pub single_row : PlanarSurface → Bool
single_row r = fits binary32 r.area && (fits binary32 r.nx && (fits binary32 r.ny && fits binary32 r.nz))

unfoldable pub all_single : List PlanarSurface → Bool
all_single [] = true
all_single (r ∷ rs) = single_row r && all_single rs

abbrev pub SortedInOrder : Type 0
SortedInOrder = (l : List PlanarSurface) → T (all_plain l) → InOrder (sorted l)

abbrev pub SortedSame : Type 0
SortedSame = (l : List PlanarSurface) → SameRows l (sorted l)

abbrev pub SortedOne : Type 0
SortedOne = (l m : List PlanarSurface) → T (all_plain l) → T (all_single l) → SameRows l m → InOrder m → m ≡ sorted l
