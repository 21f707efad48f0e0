-- A float that is a whole number, and the same moved: the premise by values, and what differences and comparisons see of it. Assumes
-- nothing.
use mathlib.Core.Path.{◌≡◌, refl, sym, subst}
use mathlib.Core.Bool.{Bool, true, false, cond}
use Prim.Native.Nat.{ℕ, ◌^◌, ◌≤◌, ◌<◌}
use native.Mathlib.Omega.{arith}
use lib.Dec.{T}
use lib.IntN.{ℤ, pos, nat_abs, ◌+ℤ◌}
use lib.Ieee.{Float, nan, inf, fin, Format, binary32, is_nan, lt, sub, of_bits}
use lib.Ieee.Bits.{is_false}
use lib.Ieee.Scale.{finite}
use Rattle.ieee.specs.Magnitude.{magnitude}
use Rattle.ieee.specs.Order.{least, greatest}
use Rattle.ieee.specs.WholeNumber.{IsWhole}
use Rattle.ieee.proofs.Integers.Floats.{whole_of_test, test_of_whole, to_signed_whole, magnitude_whole}
use Rattle.ieee.proofs.Integers.Order.{lt_moved, under_bound, whole_equals}
use Rattle.ieee.proofs.Integers.Sums.{sub_moved}
use Rattle.ieee.proofs.Values.ByValue.{value_number}
use Rattle.sums.specs.Fine.{fine}
use Rattle.place.specs.Moved.{is_whole, whole_of, WholeTells}

-- ---- what the premise's test says

pub in_i64 : (n : ℕ) → n ≤ 16777216 → n < 2 ^ 63
in_i64 n h = omega arith

pub whole_tells : (x : Float) → T (is_whole x) → WholeTells x
whole_tells x t =
    let w = whole_of_test binary32 x t in
    let e : w.at ≡ whole_of x = sym (to_signed_whole 63 x w.at (in_i64 (nat_abs w.at) w.small) w.is) in
    record { is = subst (IsWhole x) e w.is; most = subst (λ (z : ℤ). nat_abs z ≤ 16777216) e w.small }

pub whole_told : (x : Float) (a : ℤ) → IsWhole x a → nat_abs a ≤ 16777216 → T (is_whole x)
whole_told x a h l = test_of_whole binary32 x a l h

-- ---- moved by d

-- x is the integer `at`, y is d more, and both are 2^24 at most in size
pub record Shifted (d : ℤ) (x y : Float) : Type 0 where
  pub at : ℤ
  pub first : IsWhole x at
  pub second : IsWhole y (at +ℤ d)
  pub first_most : nat_abs at ≤ 16777216
  pub second_most : nat_abs (at +ℤ d) ≤ 16777216

pub shifted_of : (d : ℤ) (x y : Float) → T (is_whole x) → T (is_whole y) → whole_of y ≡ whole_of x +ℤ d → Shifted d x y
shifted_of d x y before after plus =
    let s = whole_tells x before in
    let t = whole_tells y after in
    record {
      at = whole_of x;
      first = s.is;
      second = subst (IsWhole y) plus t.is;
      first_most = s.most;
      second_most = subst (λ (z : ℤ). nat_abs z ≤ 16777216) plus t.most;
    }

-- no such float is refused
pub whole_fine : (x : Float) (a : ℤ) → IsWhole x a → nat_abs a ≤ 16777216 → T (fine x)
unfolding of_bits
whole_fine x a h l =
    under_bound (magnitude x) (of_bits binary32 0x5000_0000) (pos (nat_abs a)) 8589934592
    (whole_equals (magnitude x) (pos (nat_abs a)) (magnitude_whole x a h)) (omega arith)
    (whole_equals (of_bits binary32 0x5000_0000) (pos 8589934592) (refl, refl))

module _ (d : ℤ) (x y x' y' : Float) (p : Shifted d x x') (q : Shifted d y y') where
  pub same_sub : (f : Format) → sub f x' y' ≡ sub f x y
  same_sub f = sub_moved f x y x' y' p.at q.at d p.first q.first p.second q.second

  pub same_lt : lt x' y' ≡ lt x y
  same_lt = lt_moved x y x' y' p.at q.at d p.first q.first p.second q.second

-- ---- the lesser and the greater of two

whole_not_nan : (x : Float) (a : ℤ) → IsWhole x a → is_nan x ≡ false
whole_not_nan x a h = is_false (is_nan x) (value_number x _ _ 1 h)

-- of the two that are moved the one is taken that was taken before
module _ (d : ℤ) (x y x' y' : Float) (p : Shifted d x x') (q : Shifted d y y') where
  taken : (b : Bool) → Shifted d (cond b y x) (cond b y' x')
  taken true = q
  taken false = p

  pub least_shifted : Shifted d (least x y) (least x' y')
  unfolding least
  least_shifted =
      rw (whole_not_nan x p.at p.first, whole_not_nan x' (p.at +ℤ d) p.second, same_lt d y x y' x' q p) (taken (lt y x))

  pub greatest_shifted : Shifted d (greatest x y) (greatest x' y')
  unfolding greatest
  greatest_shifted =
      rw (whole_not_nan x p.at p.first, whole_not_nan x' (p.at +ℤ d) p.second, same_lt d x y x' y' p q) (taken (lt x y))

pub whole_finite : (x : Float) (a : ℤ) → IsWhole x a → T (finite x)
whole_finite nan a h = absurd h
whole_finite (inf s) a h = absurd h
whole_finite (fin s m e) a h = tt
