-- A float's nearest whole number as an integer, by its pattern: below hid f its size and its sign; from there on it is whole.
-- Assumes nothing.
use mathlib.Core.Path.{◌≡◌, sym, ap}
use mathlib.Core.Bool.{Bool, true, false, cond}
use Prim.Native.Nat.{ℕ, ◌+◌, ◌^◌, ◌≤◌, ◌<◌}
use native.Mathlib.Nat.{lt_of_le_of_lt}
use native.Mathlib.Omega.{arith}
use lib.Dec.{T, leb, leb→le}
use lib.Pow.{pow-lt}
use lib.Ieee.{Float, Format, binary64, prec, low, ones, top, fits, of_bits, to_signed, in_float}
use lib.Ieee.Back.{round_whole}
use lib.Ieee.Fits.{reach, two}
use Rattle.ieee.specs.Integral.{half, half_away, to_whole}
use Rattle.ieee.specs.inner.Wholes.{signed}
use Rattle.ieee.proofs.Integers.Floats.{to_signed_value}
use Rattle.ieee.proofs.Patterns.Integral.{field, in_format, size_of, small, whole_already}

-- ---- below hid f, and so within a word that has more digits than the format
module _ (f : Format) (w : ℕ) (wide : prec f < w) (x : Float) (b : ℕ) (is : of_bits f b ≡ x) (n : ℕ) (h : field f b < low f + 1)
    (r : n ≡ to_whole half (size_of f b) (2 ^ low f)) where
  at_most : n ≤ 2 ^ prec f
  unfolding in_float
  at_most = leb→le n (2 ^ prec f) (in_format f f half b n (omega (arith, two f)) r)

  pub few : n < 2 ^ w
  few = lt_of_le_of_lt at_most (pow-lt wide)

  finite : field f b < ones f
  finite = omega (arith, two f, reach f)

  by_sign : (s : Bool) → leb (top f) b ≡ s → n ≡ to_whole (cond s half half) (size_of f b) (2 ^ low f)
      → signed s n ≡ to_signed w (half_away f x)
  by_sign s g e = rw (← small f f half half x b is s n g finite e) (sym (to_signed_value w _ s n few (round_whole f s n at_most)))

  pub nearest_signed : (s : Bool) → leb (top f) b ≡ s → signed s n ≡ to_signed w (half_away f x)
  nearest_signed false g = by_sign false g r
  nearest_signed true g = by_sign true g r

-- ---- from 2 ^ 52 on
pub already : (x : Float) (b : ℕ) → of_bits binary64 b ≡ x → T (fits binary64 x) → 1075 ≤ field binary64 b
    → to_signed 63 x ≡ to_signed 63 (half_away binary64 x)
already x b is t h = ap (to_signed 63) (whole_already binary64 half half x b is t h)
