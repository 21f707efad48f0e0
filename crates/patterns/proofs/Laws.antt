-- What a word is as a pattern: a NaN's, within the format's width, read back, without its sign. Assumes nothing.
use mathlib.Core.Path.{◌≡◌, sym, ap, subst}
use mathlib.Core.Bool.{true}
use Prim.Native.Nat.{ℕ, ◌+◌, ◌*◌, ◌/◌, ◌%◌, ◌<◌}
use lib.Dec.{T}
use lib.Ieee.{Float, Format, fits, hid, is_nan, ones, to_bits, top}
use lib.Ieee.Bits.{to_bits-lt}
use Rattle.ieee.specs.Magnitude.{SignCleared}
use Rattle.ieee.proofs.Patterns.Nan.{is_nan_lem}
use Rattle.ieee.proofs.Patterns.Signs.{sign_cleared}

-- the one pattern that is written for a NaN
pub nan_word : (f : Format) (x : Float) → is_nan x ≡ true → ones f * hid f + hid f / 2 ≡ to_bits f x
unfolding to_bits
nan_word f x h = ap (to_bits f) (sym (is_nan_lem x h))

pub nan_fits : (f : Format) (x : Float) → is_nan x ≡ true → fits f x ≡ true
unfolding fits
nan_fits f x h = ap (fits f) (is_nan_lem x h)

pub word_lt : (f : Format) (x : Float) → fits f x ≡ true → to_bits f x < 2 * top f
word_lt f x h = to_bits-lt f x (subst T (sym h) tt)

pub cleared : (f : Format) (b r : ℕ) → r ≡ b % top f → SignCleared f b r
cleared f b r e = subst (SignCleared f b) (sym e) (sign_cleared f b)
