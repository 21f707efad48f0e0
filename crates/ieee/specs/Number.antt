-- A float as a number: 0 and -0 are one, and the opposite of 0 is 0 (02, A9).
use Rattle.std.specs.Prelude.{zero, suc, false, Float}
use Rattle.std.specs.Float.{nan, inf, fin}
use Rattle.std.specs.Float.Ieee.{neg}

-- a zero loses its sign; all else stays
unfoldable pub as_number : Float → Float
as_number nan = nan
as_number (inf s) = inf s
as_number (fin s zero e) = fin false zero e
as_number (fin s (suc m) e) = fin s (suc m) e

-- negated, as a number: never -0
abbrev pub opposite : Float → Float
opposite x = as_number (neg x)
