-- The lesser and the greater of two floats: what `least` and `greatest` answer, of either format.
use Rattle.std.specs.Prelude.{◌||◌, cond, Float}
use Rattle.std.specs.Float.Ieee.{is_nan, lt}

-- IEEE 754-2019 9.6, minimumNumber and maximumNumber: of a NaN and a number the number is taken. One rule differs:
-- of two equal values, as 0 and -0 are, the first is taken, where 9.6 puts -0 below 0.
unfoldable pub least : Float → Float → Float
least x y = cond (is_nan x || lt y x) y x

unfoldable pub greatest : Float → Float → Float
greatest x y = cond (is_nan x || lt x y) y x
