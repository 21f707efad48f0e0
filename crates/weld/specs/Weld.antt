-- Weld (01; 000, `welded_indices`): vertices in one cell become the first of them.
use Rattle.std.specs.Prelude.{ℕ, Bool, cond, ◌||◌, List, [], ◌∷◌, length, from_bits, is_nan, nat_lt, Float}
use Rattle.std.specs.Float.{binary64}
use Rattle.std.specs.Float.Ieee.{div, le}
use Rattle.ieee.specs.Order.{greatest}
use Rattle.ieee.specs.Single.{◌⊘◌, nought, tiny}
use Rattle.vertices.specs.Vertices.{vertex_count}
use Rattle.cells.specs.Cells.{named}

-- ε: a distance in metres, 1e-4 in 01, over the metres a unit, which is taken as 1e-12 at least; f32
unfoldable pub epsilon_of : Float → Float → Float
epsilon_of distance unit = distance ⊘ greatest unit tiny

-- 1/ε in f64
abbrev pub inverse : Float → Float
inverse ε = div binary64 (from_bits binary64 0x3ff0_0000_0000_0000) ε

-- an id past the vertices stays
unfoldable pub weld_id : List Float → Float → ℕ → ℕ
weld_id vs inv i = cond (nat_lt i (vertex_count vs)) (named vs inv i) i

unfoldable pub weld_all : List Float → Float → List ℕ → List ℕ
weld_all vs inv [] = []
weld_all vs inv (i ∷ ids) = weld_id vs inv i ∷ weld_all vs inv ids

-- an ε that is NaN or not above 0, or fewer than 3 floats: ids unchanged
unfoldable pub unwelded : List Float → Float → Bool
unwelded vs ε = is_nan ε || (le ε nought || nat_lt (length vs) 3)

unfoldable pub welded : List Float → List ℕ → Float → List ℕ
welded vs ids ε = cond (unwelded vs ε) ids (weld_all vs (inverse ε) ids)
