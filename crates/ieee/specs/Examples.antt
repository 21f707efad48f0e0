-- One table of worked examples, which shows each definition at its edges: document 01's starred ones, marked *, and more.
-- `fin s m e` is m * 2 ^ e, below zero where s is true; `negsuc k` is the exponent -(k + 1). proofs/Examples.antt proves it by computing.
use Rattle.std.specs.Prelude.{◌≡◌, true, false, pos, negsuc}
use Rattle.std.specs.Float.{nan, inf, fin, binary32, binary64}
use Rattle.std.specs.Float.Ieee.{of_bits, to_bits, to_signed, to_unsigned}
use Rattle.ieee.specs.Cube.{cube_above}
use Rattle.ieee.specs.Integral.{ceiling, floor, half_away}
use Rattle.ieee.specs.Magnitude.{SignCleared, magnitude}
use Rattle.ieee.specs.Order.{least, greatest}
use Rattle.ieee.specs.Root.{root}
use Rattle.ieee.specs.Rounded.{rounded}

pub record Examples : Type 0 where
  -- the pattern of a NaN, and the patterns about infinity's
  pub nan_32 : to_bits binary32 nan ≡ 0x7fc00000
  pub nan_64 : to_bits binary64 nan ≡ 0x7ff8000000000000
  pub last_number : of_bits binary32 0x7f7fffff ≡ fin false 0xffffff (pos 104)
  pub then_infinity : of_bits binary32 0x7f800000 ≡ inf false
  pub then_nan : of_bits binary32 0x7f800001 ≡ nan
  -- a magnitude has no sign, and a NaN's pattern keeps its digits
  pub no_minus_zero : magnitude (fin true 0 (pos 0)) ≡ fin false 0 (pos 0)
  pub digits_stay : SignCleared binary32 0xffc00001 0x7fc00001
  -- of two equal values the first: of 0 and -0 it is 0, of -0 and 0 it is -0
  pub least_first : least (fin false 0 (pos 0)) (fin true 0 (pos 0)) ≡ fin false 0 (pos 0)
  pub greatest_first : greatest (fin true 0 (pos 0)) (fin false 0 (pos 0)) ≡ fin true 0 (pos 0)
  -- a single NaN is passed over for 1, and two are a NaN
  pub least_past_nan : least nan (fin false 1 (pos 0)) ≡ fin false 1 (pos 0)
  pub greatest_past_nan : greatest (fin false 1 (pos 0)) nan ≡ fin false 1 (pos 0)
  pub least_of_nans : least nan nan ≡ nan
  -- to an integer: -2.5 to -2; 2^31 stops at 2^31 - 1, and -2^31 is the lowest; infinity stops; -1 to 0; a NaN to 0
  pub toward_zero : to_signed 31 (fin true 5 (negsuc 0)) ≡ negsuc 1
  pub highest_i32 : to_signed 31 (fin false 1 (pos 31)) ≡ pos 0x7fffffff
  pub lowest_i32 : to_signed 31 (fin true 1 (pos 31)) ≡ negsuc 0x7fffffff
  pub highest_u64 : to_unsigned 64 (inf false) ≡ 0xffffffffffffffff
  pub lowest_u64 : to_unsigned 64 (fin true 1 (pos 0)) ≡ 0
  pub nan_to_0 : to_signed 63 nan ≡ pos 0
  -- half away from zero: * 2.5 to 3; * -0.5 to -1; the `f32` below 0.5 to 0
  pub half_up : half_away binary64 (fin false 5 (negsuc 0)) ≡ fin false 3 (pos 0)
  pub half_down : half_away binary64 (fin true 1 (negsuc 0)) ≡ fin true 1 (pos 0)
  pub below_half : half_away binary32 (fin false 0xffffff (negsuc 24)) ≡ fin false 0 (pos 0)
  -- floor of the `f32` next to -0 is -1; ceiling of -0.5 is -0
  pub floor_below : floor binary32 (fin true 1 (negsuc 148)) ≡ fin true 1 (pos 0)
  pub ceiling_to_zero : ceiling binary32 (fin true 1 (negsuc 0)) ≡ fin true 0 (pos 0)
  -- to `f32`, each a tie: 1 + 2^-24 to 1; 2^128 - 2^103, past the largest value, to infinity; -2^-150 to -0
  pub narrow_even : rounded binary32 (fin false 0x1000001 (negsuc 23)) ≡ fin false 1 (pos 0)
  pub narrow_infinite : rounded binary32 (fin false 0x1ffffff (pos 103)) ≡ inf false
  pub narrow_to_zero : rounded binary32 (fin true 1 (negsuc 149)) ≡ fin true 0 (pos 0)
  -- * the roots of 0, 4 and 0.25 are 0, 2 and 0.5; -0 is its own root, and -1 has none
  pub root_0 : root binary64 (fin false 0 (pos 0)) ≡ fin false 0 (pos 0)
  pub root_4 : root binary64 (fin false 1 (pos 2)) ≡ fin false 1 (pos 1)
  pub root_quarter : root binary64 (fin false 1 (negsuc 1)) ≡ fin false 1 (negsuc 0)
  pub root_minus_zero : root binary64 (fin true 0 (pos 0)) ≡ fin true 0 (pos 0)
  pub root_below_zero : root binary64 (fin true 1 (pos 0)) ≡ nan
  -- 8 * s ^ 3 > p ^ 2: of 1 and 2; not of 2 and 8 nor of 2 and -8, where both sides are 64; of the `f32` after 2 and 8; not of -1 and 0
  pub cube_more : cube_above (fin false 1 (pos 0)) (fin false 1 (pos 1)) ≡ true
  pub cube_equal : cube_above (fin false 1 (pos 1)) (fin false 1 (pos 3)) ≡ false
  pub cube_no_sign : cube_above (fin false 1 (pos 1)) (fin true 1 (pos 3)) ≡ false
  pub cube_just_more : cube_above (of_bits binary32 0x40000001) (fin false 1 (pos 3)) ≡ true
  pub cube_below_zero : cube_above (fin true 1 (pos 0)) (fin false 0 (pos 0)) ≡ false
  -- infinity is above the largest `f32`; a NaN is above nothing, nor is anything above it
  pub cube_infinite : cube_above (inf false) (of_bits binary32 0x7f7fffff) ≡ true
  pub cube_of_nan : cube_above nan (fin false 0 (pos 0)) ≡ false
  pub cube_to_nan : cube_above (inf false) nan ≡ false
