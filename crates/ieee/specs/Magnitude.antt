-- A float without its sign: what `magnitude` answers, of either format.
use Rattle.std.specs.Prelude.{◌≡◌, false, ℕ, ◌%◌, Float}
use Rattle.std.specs.Float.{nan, inf, fin, Format}
use Rattle.std.specs.Float.Ieee.{top, of_bits}

-- IEEE 754-2019 5.5.1, abs
unfoldable pub magnitude : Float → Float
magnitude nan = nan
magnitude (inf s) = inf false
magnitude (fin s m e) = fin false m e

-- r is the pattern b without the highest bit, the sign, and so it is the magnitude's. 5.5.1 lets abs touch nothing but that bit:
-- a NaN keeps its digits, which a `Float` does not have.
pub record SignCleared (f : Format) (b r : ℕ) : Type 0 where
  pub digits : r ≡ b % top f
  pub value : of_bits f r ≡ magnitude (of_bits f b)
