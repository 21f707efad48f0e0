-- What every area is: a number that is not below zero, nor -0.
use Rattle.std.specs.Prelude.{Bool, false, not, Float}
use Rattle.std.specs.Float.{nan, inf, fin}

abbrev pub plus : Float → Bool
plus nan = false
plus (inf s) = not s
plus (fin s m e) = not s
