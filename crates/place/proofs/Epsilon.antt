-- 1/ε is from 2 to 2 ^ 29 for a unit from 0.001 to 16: a quotient falls as its divisor rises, so its values at the two ends, which antt
-- computes, bound all between. Assumes nothing.
use Prim.Native.Nat.{◌*◌, ◌^◌, ◌≤◌}
use native.Mathlib.Omega.{arith}
use lib.Dec.{T}
use lib.Ieee.{Float, Format, binary32, binary64, div, is_nan, le, of_bits}
use lib.Ieee.Fits.{and_r}
use lib.Ieee.Positive.{between, den, le→cross, num, positive}
use Rattle.ieee.specs.Order.{greatest}
use Rattle.ieee.specs.Single.{tiny}
use Rattle.ieee.proofs.Order.Comparison.{le_trans}
use Rattle.ieee.proofs.Order.Extremes.{greatest_mono}
use Rattle.ieee.proofs.Order.Quotients.{div_anti}
use Rattle.weld.specs.Weld.{epsilon_of, inverse}
use Rattle.sums.proofs.Units.{least_unit, most_unit}
use Rattle.refusals.specs.Refusals.{unit_fits}
use Rattle.qto.specs.Full.{distance}
use Rattle.place.specs.Moved.{millimetre, unit_enough}

-- i is from 2 to 2 ^ 29: multiples of it are 2 at least apart, and up to the 2 ^ 24th they stay within 2 ^ 53
pub record Wide (i : Float) : Type 0 where
  pub is_positive : T (positive i)
  pub low : 2 * den i ≤ num i
  pub high : num i ≤ 2 ^ 29 * den i

abbrev two : Float
two = of_bits binary64 0x4000_0000_0000_0000

abbrev most : Float
most = of_bits binary64 0x41c0_0000_0000_0000

wide_between : (i : Float) → T (le two i) → T (le i most) → Wide i
unfolding of_bits
wide_between i l h =
    let p = between two i most tt tt l h in
    record { is_positive = p; low = omega (arith, le→cross two i tt p l); high = omega (arith, le→cross i most p tt h) }

-- the quotient of k by what lies between lo and hi
quotient_between : (f : Format) (k lo x hi : Float) → T (positive k) → T (positive lo) → T (positive hi) → T (le lo x) → T (le x hi)
    → T (le (div f k hi) (div f k x)) × T (le (div f k x) (div f k lo))
quotient_between f k lo x hi K L H l h = let X = between lo x hi L H l h in (div_anti f k x hi K X H h, div_anti f k lo x K L X l)

abbrev ε : Float → Float
ε u = epsilon_of distance u

-- `greatest` rises with u, so that ε takes no unit below 1e-12 needs no case of its own
pub wide : (u : Float) → T (unit_enough u) → T (unit_fits u) → Wide (inverse (epsilon_of distance u))
unfolding of_bits div le is_nan greatest epsilon_of unit_fits
wide u lo fits =
    let hi = and_r (le least_unit u) (le u most_unit) fits in
    let e =
    quotient_between binary32 distance (greatest millimetre tiny) (greatest u tiny) (greatest most_unit tiny) tt tt tt
    (greatest_mono millimetre u tiny tiny lo tt)
    (greatest_mono u most_unit tiny tiny hi tt) in
    let i = quotient_between binary64 (of_bits binary64 0x3ff0_0000_0000_0000) (ε most_unit) (ε u) (ε millimetre) tt tt tt e.0 e.1 in
    wide_between (inverse (ε u)) (le_trans two (inverse (ε millimetre)) (inverse (ε u)) tt i.0)
    (le_trans (inverse (ε u)) (inverse (ε most_unit)) most i.1 tt)
