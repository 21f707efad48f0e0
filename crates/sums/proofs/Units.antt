-- The square and the cube of a unit that passes refusal 2, from 2^-20 to 16, are up to 2^8 and 2^12, and the square is above
-- zero. Assumes nothing.
use Rattle.std.proofs.Common.{◌^◌, true, false, T, refl, lit≤}
use lib.Ieee.{Float, nan, inf, fin, binary32, le, mul, of_bits}
use lib.Ieee.Positive.{positive, between, mul_mono}
use Rattle.ieee.specs.Single.{◌⊗◌}
use Rattle.sums.specs.inner.Plus.{plus}
use Rattle.sums.proofs.Within.{Within, within_le, within_mul}

-- the ends of refusal 2
abbrev pub least_unit : Float
least_unit = of_bits binary32 0x3580_0000

abbrev pub most_unit : Float
most_unit = of_bits binary32 0x4180_0000

-- the ends and their powers
least_positive_lem : T (positive least_unit)
unfolding of_bits
least_positive_lem = tt

most_positive : T (positive most_unit)
unfolding of_bits
most_positive = tt

squares_positive : T (positive (least_unit ⊗ least_unit)) × T (positive (most_unit ⊗ most_unit))
unfolding of_bits mul
squares_positive = (tt, tt)

positive_plus : (x : Float) → T (positive x) → T (plus x)
positive_plus nan p = absurd p
positive_plus (inf s) p = absurd p
positive_plus (fin true m e) p = absurd p
positive_plus (fin false m e) p = tt

module _ (u : Float) (low : T (le least_unit u)) (high : T (le u most_unit)) where
  pub unit_positive : T (positive u)
  unit_positive = between least_unit u most_unit least_positive_lem most_positive low high

  square_above : T (le (least_unit ⊗ least_unit) (u ⊗ u))
  square_above = mul_mono binary32 least_unit u least_unit u least_positive_lem unit_positive least_positive_lem unit_positive low low

  square_below : T (le (u ⊗ u) (most_unit ⊗ most_unit))
  square_below = mul_mono binary32 u most_unit u most_unit unit_positive most_positive unit_positive most_positive high high

  pub square_positive : T (positive (u ⊗ u))
  square_positive =
      between (least_unit ⊗ least_unit) (u ⊗ u) (most_unit ⊗ most_unit) squares_positive.0 squares_positive.1 square_above square_below

  pub unit_within : Within (2 ^ 4) u
  unfolding of_bits
  unit_within = within_le (2 ^ 4) u most_unit (positive_plus u unit_positive) (refl, refl) high

  pub square_within : Within (2 ^ 8) (u ⊗ u)
  square_within = within_mul binary32 4 4 u u (lit≤ tt) unit_within unit_within

  pub cube_within : Within (2 ^ 12) (u ⊗ u ⊗ u)
  cube_within = within_mul binary32 8 4 (u ⊗ u) u (lit≤ tt) square_within unit_within
