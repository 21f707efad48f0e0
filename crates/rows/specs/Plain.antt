-- What can be put in order: numbers, and not -0, so that two of which neither is less are the same.
use Rattle.std.specs.Prelude.{Bool, true, false, not, ◌&&◌, List, [], ◌∷◌, zero, suc, Float}
use Rattle.std.specs.Float.{nan, inf, fin}
use Rattle.rows.specs.declared.PlanarSurface.{PlanarSurface}

unfoldable pub plain_float : Float → Bool
plain_float nan = false
plain_float (inf s) = true
plain_float (fin s zero e) = not s
plain_float (fin s (suc m) e) = true

unfoldable pub plain_row : PlanarSurface → Bool
plain_row r = plain_float r.area && (plain_float r.nx && (plain_float r.ny && plain_float r.nz))

unfoldable pub all_plain : List PlanarSurface → Bool
all_plain [] = true
all_plain (r ∷ rs) = plain_row r && all_plain rs
