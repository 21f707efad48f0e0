-- A float as an integer, by its pattern: below 2 ^ h a word with its size, the sign put on; from 2 ^ h on an end of the range.
-- Assumes nothing.
use mathlib.Core.Path.{◌≡◌, sym, ◌∙◌, subst}
use mathlib.Core.Logic.{inl, inr}
use mathlib.Core.Bool.{Bool, true, false, not, cond}
use Prim.Native.Nat.{ℕ, ◌+◌, ◌-◌, ◌*◌, ◌/◌, ◌%◌, ◌^◌, ◌≤◌, ◌<◌}
use native.Mathlib.Nat.{div-lt_iff_lt-mul, eq-zero-or-pos, lt_of_lt_of_le}
use native.Mathlib.Decide.{dec_lt}
use native.Mathlib.Omega.{arith}
use borrow.Author.Tests.{le-leb, lt-leb}
use lib.Dec.{T, leb}
use lib.IntN.{pos, neg_ℤ, ◌-ℤ◌, +ℤ_idl}
use lib.Pow.{pow_mono, pow_pos}
use lib.Ieee.{Float, binary64, is_nan, ne, of_bits, to_signed}
use mir.Syntax.{w64}
use mir.Val.{to_z}
use mir.ValLaws.{to_z_pos}
use Rattle.ieee.specs.inner.Fields.{sized}
use Rattle.ieee.specs.Integral.{cut}
use Rattle.ieee.specs.inner.Wholes.{signed}
use Rattle.ieee.proofs.Order.Ranges.{Reaches, reaches_value, signed_cut, signed_end}
use Rattle.ieee.proofs.Patterns.Fields.{read_inf, read_nan}
use Rattle.ieee.proofs.Patterns.Integral.{at_least, at_most, field, size_of, value}
use Rattle.ieee.proofs.Patterns.Nan.{same_no_nan}
use Rattle.ieee.proofs.Patterns.Whole.{placed_size}

-- ---- the size without its fraction, by the fields e and t
pub none_size : (e t : ℕ) → t < 2 ^ 52 → e < 1023 → 0 ≡ sized binary64 e t / 2 ^ 1074
none_size e t h l = none (sized binary64 e t / 2 ^ 1074) ((div-lt_iff_lt-mul (pow_pos 1074)).1 (at_most binary64 0 e t h l))
  where
    none : (n : ℕ) → n < 2 ^ 0 → 0 ≡ n
    none n h = omega arith

-- the digits at the top of a word of 64, shifted down
pub shift_size : (e t : ℕ) → 1023 ≤ e → e < 1086 → (2 ^ 52 + t) * 2 ^ 11 / 2 ^ (1086 - e) ≡ sized binary64 e t / 2 ^ 1074
shift_size e t h l = placed_size binary64 cut 11 (1086 - e) e t (omega arith) (omega arith)

-- ---- by the pattern b that x has as an `f64`
module _ (h : ℕ) (x : Float) (b : ℕ) (is : of_bits binary64 b ≡ x) where
  -- below 2 ^ h
  module _ (n : ℕ) (p : h ≤ 63) (l : field binary64 b < 1023 + h) (r : n ≡ size_of binary64 b / 2 ^ 1074) where
    within : n < 2 ^ h
    within = rw r ((div-lt_iff_lt-mul (pow_pos 1074)).1 (at_most binary64 h (field binary64 b) (b % 2 ^ 52) (omega arith) l))

    pub few : n < 2 ^ 63
    few = lt_of_lt_of_le within (pow_mono p)

    by_sign : (s : Bool) → leb (2 ^ 63) b ≡ s → signed s n ≡ to_signed h x
    by_sign s g =
        rw r (sym (signed_cut h x s (size_of binary64 b) (2 ^ 1074) (pow_pos 1074) (value binary64 x b is s g (omega arith))
        (rw (← r) within)))

    pub from_zero_up : b < 2 ^ 63 → to_z w64 n ≡ to_signed h x
    from_zero_up g = to_z_pos w64 n few ∙ by_sign false (lt-leb (2 ^ 63) b g)

    pub below_zero : 2 ^ 63 ≤ b → pos 0 -ℤ to_z w64 n ≡ to_signed h x
    below_zero g = rw (to_z_pos w64 n few) (+ℤ_idl (neg_ℤ (pos n)) ∙ by_sign true (le-leb (2 ^ 63) b g))

  -- from there on
  module _ (l : 1023 + h ≤ field binary64 b) (o : ne x x ≡ false) (s : Bool) (g : leb (2 ^ 63) b ≡ s) where
    no_number : field binary64 b ≡ 2047 → Reaches (2 ^ h) s x
    unfolding is_nan
    no_number k =
        elim (eq-zero-or-pos (b % 2 ^ 52)) [
          | inl z ↦ subst (Reaches (2 ^ h) s) (sym (read_inf binary64 b k z) ∙ is) g
          | inr z ↦ absurd (subst (λ (v : Float). T (not (is_nan v))) (sym is ∙ read_nan binary64 b k z) (same_no_nan x o))
        ]

    past : Reaches (2 ^ h) s x
    past =
        elim (dec_lt (field binary64 b) 2047) [
          | yes m ↦ reaches_value (2 ^ h) x s (size_of binary64 b) (2 ^ 1074) (pow_pos 1074) (value binary64 x b is s g m)
              (at_least binary64 h (field binary64 b) (b % 2 ^ 52) l)
          | no m ↦ no_number (omega arith)
        ]

    pub past_end : cond s (neg_ℤ (pos (2 ^ h))) (pos (2 ^ h - 1)) ≡ to_signed h x
    past_end = sym (signed_end h s x past)
