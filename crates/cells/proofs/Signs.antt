-- What `coded` is, by the steps in which the code makes it: of an i64 by the test of the sign and the casts, of a float's pattern by its
-- size and sign. Assumes nothing.
use mathlib.Core.Path.{◌≡◌, refl, sym, ap, ◌∙◌}
use mathlib.Core.Bool.{Bool, true, false, true≢false, false≢true}
use Prim.Native.Nat.{ℕ, zero, suc, ◌+◌, ◌-◌, ◌*◌, ◌/◌, ◌^◌, ◌<◌, min}
use native.Mathlib.Nat.{div-eq_of_lt, div-eq_of_lt-le}
use native.Mathlib.Omega.{arith}
use native.Mathlib.Decide.{dec_lt}
use borrow.Author.Tests.{le-ltb, le-leb, lt-leb}
use lib.Dec.{T, leb}
use lib.Ieee.{Float, Format, prec, low, top, of_bits, to_signed}
use lib.IntN.{ℤ, pos, negsuc, nat_abs, ◌-ℤ◌}
use lib.Signed.{le_z, non_neg}
use mir.Syntax.{w64}
use mir.Val.{Fits, SFits}
use Rattle.ieee.specs.Integral.{half, half_away, to_whole}
use Rattle.ieee.specs.inner.Wholes.{signed}
use Rattle.ieee.proofs.Patterns.Integral.{field, size_of}
use Rattle.ieee.proofs.Patterns.Rounding.{few, nearest_signed}
use Rattle.ids.specs.Uses.{bit}
use Rattle.cells.specs.inner.Table.{coded}

-- what is left of it above -1
abbrev pub rest : ℤ → ℤ
rest z = negsuc 0 -ℤ z

rest_is : (n : ℕ) → rest (negsuc n) ≡ pos n
rest_is n = rw (le-ltb (suc n) 1 (omega arith)) (ap pos (omega arith))

-- from zero up: what each step of the code needs, and that the last is `coded`
pub record Up (z : ℤ) : Type 0 where
  pub unsigned : T (non_neg z) × Fits w64 (nat_abs z)
  pub twice : Fits w64 (2 * nat_abs z)
  pub is : 2 * nat_abs z ≡ coded z

pub from_zero : (z : ℤ) → SFits w64 z → le_z (pos 0) z ≡ true → Up z
unfolding coded
from_zero (pos n) f up =
    let fit = f.sfits in
    record { unsigned = (tt, record { fits = omega arith }); twice = record { fits = omega arith }; is = refl }
from_zero (negsuc n) f up = absurd (false≢true up)

-- below zero
pub record Down (z : ℤ) : Type 0 where
  pub left : SFits w64 (rest z)
  pub unsigned : T (non_neg (rest z)) × Fits w64 (nat_abs (rest z))
  pub twice : Fits w64 (2 * nat_abs (rest z))
  pub one_more : Fits w64 (2 * nat_abs (rest z) + 1)
  pub is : 2 * nat_abs (rest z) + 1 ≡ coded z

pub below : (z : ℤ) → SFits w64 z → le_z (pos 0) z ≡ false → Down z
unfolding coded
below (pos n) f down = absurd (true≢false (sym (le-leb 0 n (omega arith)) ∙ down))
below (negsuc n) f down = record {
  left = rw (rest_is n) (record { sfits = f.sfits });
  unsigned = rw (rest_is n) (tt, record { fits = omega (arith, f.sfits) });
  twice = rw (rest_is n) (record { fits = omega (arith, f.sfits) });
  one_more = rw (rest_is n) (record { fits = omega (arith, f.sfits) });
  is = rw (rest_is n);
}

-- ---- by a size and a sign, as the code makes it of a pattern

coded_signed : (s : Bool) (n : ℕ) → 2 * n - min (bit s) n ≡ coded (signed s n)
unfolding coded bit
coded_signed false n = omega arith
coded_signed true zero = refl
coded_signed true (suc n) = omega arith

sign_bit : (t b : ℕ) → b < 2 * t → b / t ≡ bit (leb t b)
unfolding bit
sign_bit t b l =
    elim (dec_lt b t) [
      | yes h ↦ rw (lt-leb t b h) (div-eq_of_lt h)
      | no h ↦ rw (le-leb t b (omega arith)) (div-eq_of_lt-le {k = 1} t (omega arith) (omega arith))
    ]

-- below hid f, and so within a word that has more digits than the format
pub by_pattern : (f : Format) (w : ℕ) → prec f < w → (y : Float) (b n : ℕ) → of_bits f b ≡ y → b < 2 * top f → field f b < low f + 1
    → n ≡ to_whole half (size_of f b) (2 ^ low f) → (2 * n - min (b / top f) n ≡ coded (to_signed w (half_away f y))) × (n < 2 ^ w)
by_pattern f w wide y b n is l h r =
    let s = leb (top f) b in (
      ap (λ (z : ℕ). 2 * n - min z n) (sign_bit (top f) b l) ∙ coded_signed s n ∙ ap coded (nearest_signed f w wide y b is n h r s refl),
      few f w wide y b is n h r,
    )
