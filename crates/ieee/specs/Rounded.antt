-- A float at another format: what `narrow` answers.
use Rattle.std.specs.Prelude.{◌*◌, Float}
use Rattle.std.specs.Float.{nan, inf, fin, Format}
use Rattle.std.specs.Float.Ieee.{up, down, round}

-- IEEE 754-2019 5.4.2, convertFormat. `round` is to nearest, a tie to the even one (4.3.1), and an infinity past the format's
-- largest value. (`rounded_nearest`, `round_finite`)
unfoldable pub rounded : Format → Float → Float
rounded f nan = nan
rounded f (inf s) = inf s
rounded f (fin s m e) = round f s (m * up e) (down e)
