-- The sign is a pattern's highest bit: without it the pattern is the magnitude's. And `round` hands the sign on. Assumes nothing.
use mathlib.Core.Path.{◌≡◌, refl, sym}
use mathlib.Core.Bool.{Bool, true, false, not, cond}
use Prim.Native.Nat.{ℕ, zero, suc, ◌+◌, ◌*◌, ◌/◌, ◌%◌, ◌^◌, ◌<◌}
use native.Mathlib.Nat.{mod-mod, mod-mod_of_dvd, dvd-mul_right, mod-lt, mul-pos, zero-add, zero-lt-suc}
use lib.Arith.{lt→nleb}
use lib.Dec.{leb, ltb}
use lib.Pow.{pow_pos}
use lib.Ieee.{Float, inf, Format, prec, low, hid, ones, top, neg, odd, of_bits, of_fields, round, to_bits, units}
use native.Mathlib.Omega.{arith}
use lib.Ieee.Bits.{is_false, to_bits-lt}
use lib.Ieee.Fits.{round-fits, round_is}
use lib.Ieee.Scale.{overflow}
use Rattle.ieee.specs.Magnitude.{SignCleared, magnitude}

magnitude_cond : (b : Bool) (x y : Float) → magnitude (cond b x y) ≡ cond b (magnitude x) (magnitude y)
magnitude_cond true x y = refl
magnitude_cond false x y = refl

magnitude_odd : (d : ℕ) (s : Bool) (q k l : ℕ) → magnitude (odd d s q k l) ≡ odd d false q k l
unfolding magnitude odd
magnitude_odd d s zero k l = refl
magnitude_odd d s (suc q) k l = refl

magnitude_fields : (f : Format) (s : Bool) (x t : ℕ) → magnitude (of_fields f s x t) ≡ of_fields f false x t
unfolding of_fields magnitude
magnitude_fields f s zero t = magnitude_odd (prec f) s t 0 (low f)
magnitude_fields f s (suc x) t = simp (magnitude_cond, magnitude_odd)

top_pos : (f : Format) → 0 < top f
top_pos f = mul-pos (pow_pos _) (zero-lt-suc _)

pub sign_cleared : (f : Format) (b : ℕ) → SignCleared f b (b % top f)
unfolding of_bits
sign_cleared f b =
    record {
      digits = refl;
      value = rw (no_sign, mod-mod b (top f), same_digits)
          (sym (magnitude_fields f (leb (top f) b) (b % top f / hid f) (b % hid f)));
    }
  where
    no_sign : leb (top f) (b % top f) ≡ false
    no_sign = is_false (leb (top f) (b % top f)) (lt→nleb (top f) (b % top f) (mod-lt b (top_pos f)))

    same_digits : b % top f % hid f ≡ b % hid f
    same_digits = mod-mod_of_dvd (hid f) b (dvd-mul_right (hid f) (suc (ones f)))

neg_odd : (d : ℕ) (s : Bool) (q k l : ℕ) → neg (odd d s q k l) ≡ odd d (not s) q k l
unfolding neg odd
neg_odd d s zero k l = refl
neg_odd d s (suc q) k l = refl

pub neg_cond : (b : Bool) (x y : Float) → neg (cond b x y) ≡ cond b (neg x) (neg y)
neg_cond true x y = refl
neg_cond false x y = refl

pub round_neg : (f : Format) (s : Bool) (a c : ℕ) → neg (round f s a c) ≡ round f (not s) a c
unfolding neg round units
round_neg f s a c = simp (neg_cond, neg_odd)

-- ---- the pattern of a rounded number: the sign's bit, and the pattern of its size
module _ (f : Format) (s : Bool) where
  apart : (a b : ℕ) → cond s (top f) 0 + a + b ≡ cond s (top f) 0 + (0 + a + b)
  apart a b = omega arith

  bits_odd : (d q k l : ℕ) → to_bits f (odd d s q k l) ≡ cond s (top f) 0 + to_bits f (odd d false q k l)
  unfolding odd to_bits
  bits_odd d zero k l = apart _ _
  bits_odd d (suc q) k l = apart _ _

  bits_either : (b : Bool) (d q k l : ℕ)
      → to_bits f (cond b (odd d s q k l) (inf s)) ≡ cond s (top f) 0 + to_bits f (cond b (odd d false q k l) (inf false))
  bits_either true d q k l = bits_odd d q k l
  bits_either false d q k l = unfold to_bits in rw zero-add

  bits_units : (q k : ℕ) → to_bits f (units f s q k) ≡ cond s (top f) 0 + to_bits f (units f false q k)
  unfolding units
  bits_units q k = bits_either (ltb (q * 2 ^ k) (overflow f)) (suc (prec f)) q k (low f)

  pub bits_signed : (a c : ℕ) → to_bits f (round f s a c) ≡ cond s (top f) 0 + to_bits f (round f false a c)
  bits_signed a c = rw (round_is f s a c, round_is f false a c) (bits_units _ _)

-- a size's pattern lies below the sign's bit
pub bits_lt : (f : Format) (a c : ℕ) → to_bits f (round f false a c) < top f
bits_lt f a c =
    under (to_bits f (round f true a c)) (top f) (to_bits f (round f false a c)) (bits_signed f true a c)
    (to_bits-lt f (round f true a c) (round-fits f true a c))
  where
    under : (x t r : ℕ) → x ≡ t + r → x < 2 * t → r < t
    under x t r e h = omega arith
