-- The patterns of the normal numbers above zero, by the code's one test. Assumes nothing.
use Rattle.std.proofs.Common.{◌≡◌, ℕ, ◌+◌, ◌/◌, ◌%◌, ◌^◌, ◌<◌, ◌≤◌, Bool, true, false, ◌&&◌, T, ltb, leb, sym, subst, arith, ltb→lt, leb→le, ltb-false, le-leb}
use lib.Ieee.Fits.{and_l, and_r}

module _ (b : ℕ) where
  abbrev from : Bool
  from = leb (2 ^ 52) b

  abbrev below : Bool
  below = ltb b 0x7ff0000000000000

  pub inside : (from && below) ≡ true → (2 ^ 52 ≤ b) × (b < 0x7ff0000000000000)
  inside h =
      let both = subst T (sym h) tt in (leb→le (2 ^ 52) b (and_l from below both), ltb→lt b 0x7ff0000000000000 (and_r from below both))

  pub outside : (from && below) ≡ false → 2 ^ 52 ≤ b → 0x7ff0000000000000 ≤ b
  outside h l = ltb-false b 0x7ff0000000000000 (subst (λ (t : Bool). (t && below) ≡ false) (le-leb (2 ^ 52) b l) h)

  -- a zero has neither exponent nor digits
  pub no_digits : b % 2 ^ 63 ≡ 0 → b % 2 ^ 63 / 2 ^ 52 + b % 2 ^ 52 ≡ 0
  no_digits h = let e : b % 2 ^ 52 ≡ 0 = omega arith in rw (h, e)
