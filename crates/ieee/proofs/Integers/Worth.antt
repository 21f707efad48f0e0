-- Conversions to integers go toward zero, to the nearer end of the range, and from a NaN to 0. Assumes nothing.
use mathlib.Core.Path.{◌≡◌, refl}
use mathlib.Core.Bool.{Bool, true, false}
use Prim.Native.Nat.{ℕ, ◌-◌, ◌*◌, ◌/◌, ◌^◌, ◌≤◌, min}
use native.Mathlib.Omega.{arith}
use native.Mathlib.Nat.{le-div_iff_mul-le}
use lib.IntN.{ℤ, pos, neg_ℤ}
use lib.Ieee.{Float, nan, inf, fin, up, down, to_signed, to_unsigned}
use lib.Ieee.Fits.{down_pos}
use Rattle.ieee.specs.Integer.{NotAbove, Cut, HasSign, ToSignedIs, ToUnsignedIs}

-- every number is below an infinity, so the end is the greatest
all_below : (most : ℕ) (s : Bool) → Cut most (inf s) most
unfolding NotAbove
all_below most s = record { in_range = omega arith; not_above = tt; greatest = λ k l h. l }

-- a / b without its fraction, or the end
cut_at : (most : ℕ) (s : Bool) (m : ℕ) (e : ℤ) → Cut most (fin s m e) (min (m * up e / down e) most)
unfolding NotAbove
cut_at most s m e =
    let q = m * up e / down e in
    let n = min q most in
    let least : n ≤ q = omega arith in
    record {
      in_range = omega arith;
      not_above = (le-div_iff_mul-le (down_pos e)).0 least;
      greatest = λ k l h. let below : k ≤ q = (le-div_iff_mul-le (down_pos e)).1 h in omega arith;
    }

pub to_signed_is : (h : ℕ) → ToSignedIs h
unfolding HasSign to_signed
to_signed_is h = record { of_nan = refl; from_zero_up = above; from_zero_down = below }
  where
    above : (x : Float) → HasSign false x → (n : ℕ) × (to_signed h x ≡ pos n) × Cut (2 ^ h - 1) x n
    above nan p = absurd p
    above (inf s) p = (2 ^ h - 1, rw p, all_below (2 ^ h - 1) s)
    above (fin s m e) p = (min (m * up e / down e) (2 ^ h - 1), rw p, cut_at (2 ^ h - 1) s m e)

    below : (x : Float) → HasSign true x → (n : ℕ) × (to_signed h x ≡ neg_ℤ (pos n)) × Cut (2 ^ h) x n
    below nan p = absurd p
    below (inf s) p = (2 ^ h, rw p, all_below (2 ^ h) s)
    below (fin s m e) p = (min (m * up e / down e) (2 ^ h), rw p, cut_at (2 ^ h) s m e)

pub to_unsigned_is : (w : ℕ) → ToUnsignedIs w
unfolding HasSign to_unsigned
to_unsigned_is w = record { of_nan = refl; from_zero_up = above; from_zero_down = below }
  where
    above : (x : Float) → HasSign false x → Cut (2 ^ w - 1) x (to_unsigned w x)
    above nan p = absurd p
    above (inf s) p = rw p (all_below (2 ^ w - 1) false)
    above (fin s m e) p = rw p (cut_at (2 ^ w - 1) false m e)

    below : (x : Float) → HasSign true x → to_unsigned w x ≡ 0
    below nan p = absurd p
    below (inf s) p = rw p
    below (fin s m e) p = rw p
