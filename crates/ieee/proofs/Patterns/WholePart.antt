-- The whole part of an `f32` from 1 up and below 2 ^ 23 is its digits, shifted: it tells that there is no sign, and bounds the exponent's
-- field. Assumes nothing.
use mathlib.Core.Path.{◌≡◌, refl, sym, ap, ◌∙◌, subst}
use mathlib.Core.Logic.{inl, inr}
use mathlib.Core.Bool.{Bool, true, false, cond}
use Prim.Native.Nat.{ℕ, ◌+◌, ◌-◌, ◌/◌, ◌%◌, ◌^◌, ◌≤◌, ◌<◌, min}
use native.Mathlib.Nat.{div-lt_iff_lt-mul, eq-zero-or-pos, le-div_iff_mul-le}
use native.Mathlib.Decide.{dec_lt}
use native.Mathlib.Omega.{arith}
use borrow.Author.Tests.{leb-false}
use lib.Dec.{T, leb}
use lib.IntN.{pos}
use lib.Pow.{pow_pos}
use lib.Ieee.{Float, fin, binary32, le, lt, of_bits, to_unsigned}
use lib.Ieee.Exact.{HasValue}
use Rattle.ieee.specs.inner.Fields.{sized}
use Rattle.ieee.specs.Integral.{cut}
use Rattle.ieee.proofs.Order.Casts.{to_unsigned_mono}
use Rattle.ieee.proofs.Order.Comparison.{lt_le}
use Rattle.ieee.proofs.Order.Ranges.{unsigned_value}
use Rattle.ieee.proofs.Patterns.Fields.{read_inf, read_nan, read_value}
use Rattle.ieee.proofs.Patterns.Integral.{at_least, at_most}
use Rattle.ieee.proofs.Patterns.Whole.{digits_size}

-- a whole part above 0 and short of its range's end: there is no sign, and it is the size's
inside : (s : Bool) (n q : ℕ) → n ≡ cond s 0 (min q (2 ^ 64 - 1)) → 0 < n → n < 2 ^ 24 → (s ≡ false) × (q ≡ n)
inside true n q e h k = absurd (omega arith)
inside false n q e h k = (refl, omega arith)

not_end : (s : Bool) (n : ℕ) → n ≡ cond s 0 (2 ^ 64 - 1) → 0 < n → n < 2 ^ 24 → ⊥
not_end true n e h k = omega arith
not_end false n e h k = omega arith

module _ (x : Float) (b : ℕ) (is : of_bits binary32 b ≡ x) (h : T (le (fin false 1 (pos 0)) x)) (k : T (lt x (fin false 1 (pos 23)))) where
  abbrev n : ℕ
  n = to_unsigned 64 x

  some : 0 < n
  unfolding to_unsigned
  some = to_unsigned_mono 64 (fin false 1 (pos 0)) x h

  few : n < 2 ^ 24
  unfolding to_unsigned
  few = let l : n ≤ 2 ^ 23 = to_unsigned_mono 64 x (fin false 1 (pos 23)) (lt_le x (fin false 1 (pos 23)) k) in omega arith

  abbrev sign : Bool
  sign = leb (2 ^ 31) b

  abbrev field : ℕ
  field = b % 2 ^ 31 / 2 ^ 23

  abbrev size : ℕ
  size = sized binary32 field (b % 2 ^ 23)

  -- an infinity is at an end, a NaN is 0
  no_number : field ≡ 255 → ⊥
  unfolding to_unsigned
  no_number e =
      elim (eq-zero-or-pos (b % 2 ^ 23)) [
        | inl z ↦ not_end sign n (ap (to_unsigned 64) (sym is ∙ read_inf binary32 b e z)) some few
        | inr z ↦ let none : n ≡ 0 = ap (to_unsigned 64) (sym is ∙ read_nan binary32 b e z) in omega (arith, some)
      ]

  finite : field < 255
  finite = elim (dec_lt field 255) [ yes l ↦ l | no l ↦ absurd (no_number (omega arith)) ]

  value : HasValue x sign size (2 ^ 149)
  value = subst (λ (v : Float). HasValue v sign size (2 ^ 149)) is (read_value binary32 b finite)

  is_size : (sign ≡ false) × (size / 2 ^ 149 ≡ n)
  is_size = inside sign n (size / 2 ^ 149) (unsigned_value 64 x sign size (2 ^ 149) (pow_pos 149) value) some few

  no_sign : b < 2 ^ 31
  no_sign = leb-false (2 ^ 31) b is_size.0

  -- the field of 1, 127, at least, and at most that of a last digit that counts 1
  least : 127 ≤ field
  least =
      elim (dec_lt field 127) [
        | yes l ↦
            let none : size / 2 ^ 149 < 1 = (div-lt_iff_lt-mul (pow_pos 149)).1 (at_most binary32 0 field (b % 2 ^ 23) (omega arith) l) in
            absurd (omega (arith, some, subst (λ (q : ℕ). q < 1) is_size.1 none))
        | no l ↦ omega arith
      ]

  most : field ≤ 150
  most =
      elim (dec_lt 150 field) [
        | yes l ↦
            let many : 2 ^ 24 ≤ size / 2 ^ 149 = (le-div_iff_mul-le (pow_pos 149)).1 (at_least binary32 24 field (b % 2 ^ 23) l) in
            absurd (omega (arith, few, subst (λ (q : ℕ). 2 ^ 24 ≤ q) is_size.1 many))
        | no l ↦ omega arith
      ]

  same_field : field ≡ b / 2 ^ 23
  same_field = omega (arith, no_sign)

  pub field_range : (127 ≤ b / 2 ^ 23) × (b / 2 ^ 23 ≤ 150)
  field_range = (rw (← same_field) least, rw (← same_field) most)

  pub whole_part : (2 ^ 23 + b % 2 ^ 23) / 2 ^ (150 - b / 2 ^ 23) ≡ to_unsigned 64 x
  whole_part = rw (← same_field) (digits_size binary32 cut field (b % 2 ^ 23) (omega (arith, least)) most ∙ is_size.1)
