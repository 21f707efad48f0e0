-- Whether 8 * s ^ 3 > p ^ 2, of the numbers that two floats stand for: what `cube_above` answers. For an s and a p from zero up that is
-- s > p ^ (2 / 3) / 2 without a power to round: document 01's one exception.
use Rattle.std.specs.Prelude.{◌*◌, Bool, false, not, ◌&&◌, ltb, Float}
use Rattle.std.specs.Float.{nan, inf, fin}
use Rattle.std.specs.Float.Ieee.{up, down}

-- A NaN is above nothing and below nothing (IEEE 754-2019 5.11). Where s is not above zero, 8 * s ^ 3 ≤ 0 ≤ p ^ 2. The sign of p goes with
-- the square. An infinity is above every number, and not above an infinity.
-- Of m * up e / down e and n * up d / down d both sides are multiplied by the denominators.
unfoldable pub cube_above : Float → Float → Bool
cube_above nan p = false
cube_above (inf s) nan = false
cube_above (inf s) (inf t) = false
cube_above (inf s) (fin t n d) = not s
cube_above (fin s m e) nan = false
cube_above (fin s m e) (inf t) = false
cube_above (fin s m e) (fin t n d) =
    not s && ltb ((n * up d) * (n * up d) * (down e * down e * down e)) (8 * (m * up e * (m * up e) * (m * up e)) * (down d * down d))
