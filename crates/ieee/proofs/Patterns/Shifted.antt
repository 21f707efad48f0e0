-- Rounding a number of binary digits over a power of two is a shift of the digits. Assumes nothing.
use mathlib.Core.Path.{◌≡◌, sym, ap, ◌∙◌}
use mathlib.Core.Logic.{◌⊎◌, inl, inr, ⊎_elim}
use mathlib.Core.Bool.{Bool, false}
use Prim.Native.Nat.{ℕ, suc, ◌+◌, ◌-◌, ◌*◌, ◌/◌, ◌^◌, ◌≤◌, ◌<◌}
use native.Mathlib.Nat.{div-lt_iff_lt-mul, le-div_iff_mul-le, le_of_eq, le_of_mul-le-mul_right, le_trans, lt_of_mul-lt-mul_right, mul_assoc}
use native.Mathlib.Nat.{mul-le-mul_right, mul-lt-mul_of_pos_right, mul-pos}
use native.Mathlib.Omega.{arith}
use lib.Pow.{pow-add, pow_mono, pow_pos, shr_lt}
use lib.Ieee.{inf, Format, prec, emax, low, hid, size, units, round, to_bits}
use lib.Ieee.Digits.{size-le}
use lib.Ieee.Fits.{reach, round_is, two}
use lib.Ieee.Nearest.{closest, closest_same}
use lib.Ieee.Order.{drop}
use Rattle.ieee.proofs.Numbers.Basic.{closest_ge, closest_le, size_gt}
use Rattle.ieee.proofs.Patterns.Packing.{pack, units_inf}

-- The number d * 2 ^ x / 2 ^ l is in units n / 2 ^ l. With k of its digits dropped it is d with j dropped.
module _ (f : Format) (d x l j k : ℕ) (even : x + low f + j ≡ l + k) (few : d < 2 ^ (prec f + j))
    (full : (k ≡ 0) ⊎ (2 ^ (prec f - 1 + j) ≤ d)) where
  abbrev n : ℕ
  n = d * 2 ^ x * 2 ^ low f

  n_is : n * 2 ^ j ≡ d * 2 ^ (l + k)
  n_is = rw (← even, pow-add 2 (x + low f) j, pow-add 2 x (low f)) (simp mul_assoc)

  regroup : (p : ℕ) → 2 ^ (p + k) * 2 ^ l * 2 ^ j ≡ 2 ^ (p + j) * 2 ^ (l + k)
  regroup p =
      let e : p + k + l + j ≡ p + j + (l + k) = omega arith in
      rw (← pow-add 2 (p + k) l, ← pow-add 2 (p + k + l) j, e) (pow-add 2 (p + j) (l + k))

  upper : size (n / 2 ^ l) ≤ prec f + k
  upper =
      size-le (n / 2 ^ l) (prec f + k) ((div-lt_iff_lt-mul (pow_pos l)).1
      (lt_of_mul-lt-mul_right (2 ^ j) (rw (n_is, regroup (prec f)) (mul-lt-mul_of_pos_right few (pow_pos (l + k))))))

  lower : 2 ^ (prec f - 1 + j) ≤ d → prec f - 1 + k < size (n / 2 ^ l)
  lower h =
      size_gt (n / 2 ^ l) (prec f - 1 + k) ((le-div_iff_mul-le (pow_pos l)).1
      (le_of_mul-le-mul_right (rw (n_is, regroup (prec f - 1)) (mul-le-mul_right (2 ^ (l + k)) h)) (pow_pos j)))

  drop_is : drop (prec f) n (2 ^ l) ≡ k
  drop_is =
      let u = upper in let p = two f in ⊎_elim (λ (z : k ≡ 0). omega arith) (λ (h : 2 ^ (prec f - 1 + j) ≤ d). omega (arith, lower h)) full

  round_shift : (s : Bool) → round f s (d * 2 ^ x) (2 ^ l) ≡ units f s (closest d (2 ^ j)) k
  round_shift s =
      round_is f s (d * 2 ^ x) (2 ^ l)
      ∙ ap (λ (z : ℕ). units f s (closest n (2 ^ l * 2 ^ z)) z) drop_is
      ∙ ap (λ (z : ℕ). units f s z k)
      (closest_same n (2 ^ l * 2 ^ k) d (2 ^ j) (mul-pos (pow_pos l) (pow_pos k)) (pow_pos j)
      (n_is ∙ ap (λ (y : ℕ). d * y) (pow-add 2 l k)))

  -- the leading digit stays
  kept : 2 ^ (prec f - 1 + j) ≤ d → 2 ^ (prec f - 1) ≤ closest d (2 ^ j)
  kept h = le_trans ((le-div_iff_mul-le (pow_pos j)).1 (le_trans (le_of_eq (sym (pow-add 2 (prec f - 1) j))) h)) (closest_ge d (2 ^ j))

  pub shift_bits : k < 2 * emax f → to_bits f (round f false (d * 2 ^ x) (2 ^ l)) ≡ k * hid f + closest d (2 ^ j)
  shift_bits h =
      ap (to_bits f) (round_shift false)
      ∙ pack f (closest d (2 ^ j)) k (le_trans (closest_le d (2 ^ j)) (shr_lt (prec f) j few)) (⊎_elim inl (λ g. inr (kept g)) full) h

  -- a number that is too large: k's weight alone is past the format's largest value
  pub shift_inf : (s : Bool) → 2 * emax f ≤ k → 2 ^ (prec f - 1 + j) ≤ d → round f s (d * 2 ^ x) (2 ^ l) ≡ inf s
  shift_inf s h g =
      let P = two f in
      let R = reach f in
      let places : low f + suc (emax f) ≤ prec f - 1 + k = omega arith in
      round_shift s
      ∙ units_inf f s (closest d (2 ^ j)) k
      (le_trans (pow_mono places) (le_trans (le_of_eq (pow-add 2 (prec f - 1) k)) (mul-le-mul_right (2 ^ k) (kept g))))
