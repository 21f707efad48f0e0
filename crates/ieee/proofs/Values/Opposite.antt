-- What is made of opposite numbers is opposite: sums, differences the other way round, products, quotients and conversions; squares and
-- magnitudes are the same. A sum that is exactly zero is +0 with either sign, so all that is said of numbers. Assumes nothing.
use mathlib.Core.Path.{◌≡◌, refl, sym, ◌∙◌, ap}
use mathlib.Core.Bool.{Bool, true, false, not, beq}
use Prim.Native.Nat.{ℕ, ◌+◌, ◌-◌, ◌*◌, ◌/◌, ◌^◌, ◌<◌}
use native.Mathlib.Nat.{div-lt_iff_lt-mul, mul-pos}
use native.Mathlib.Decide.{dec_lt}
use native.Mathlib.Omega.{arith}
use lib.Dec.{T, ltb→lt}
use lib.IntN.{pos, neg_ℤ}
use lib.Ieee.{Float, nan, inf, fin, Format, up, down, sum, add, sub, mul, div, neg, lt, to_signed}
use lib.Ieee.Fits.{down_pos}
use Rattle.ieee.specs.Magnitude.{magnitude}
use Rattle.ieee.specs.Rounded.{rounded}
use Rattle.ieee.specs.Number.{as_number, opposite}
use Rattle.ieee.proofs.Integers.Sums.{signed_not}
use Rattle.ieee.proofs.Order.Ranges.{signed_cut}
use Rattle.ieee.proofs.Patterns.Signs.{round_neg}
use Rattle.ieee.proofs.Values.AsNumber.{add_number, div_number, lt_number, magnitude_number, mul_number, rounded_number}
use Rattle.ieee.proofs.Values.AsNumber.{square_number}
use Rattle.ieee.proofs.Values.Commutes.{add_commutes, sum_less, sum_more, sum_none}
use Rattle.ieee.proofs.Values.Negation.{div_neg_left, lt_neg, magnitude_neg, mul_neg_left, mul_neg_right, neg_neg}
use Rattle.ieee.proofs.Values.Negation.{rounded_neg}

-- ---- ±a / c + ±b / c with both signs turned
module _ (f : Format) (c : ℕ) (C : 0 < c) (a b : ℕ) where
  apart_turned : (s t : Bool) → beq s t ≡ false → beq (not s) (not t) ≡ false
      → as_number (sum f (not s) a (not t) b c) ≡ opposite (sum f s a t b c)
  apart_turned s t u v =
      elim (dec_lt a b) [
        | yes h ↦ rw (sum_less f c C (not s) (not t) a b v h, sum_less f c C s t a b u h, round_neg f t (b - a) c)
        | no h ↦
            elim (dec_lt b a) [
              | yes k ↦ rw (sum_more f c C (not s) (not t) a b v k, sum_more f c C s t a b u k, round_neg f s (a - b) c)
              | no k ↦ level (sum_none f c C (not s) (not t) a b v (omega arith)) (sum_none f c C s t a b u (omega arith))
            ]
      ]
    where
      level : {x y : Float} → x ≡ fin false 0 (pos 0) → y ≡ fin false 0 (pos 0) → as_number x ≡ opposite y
      level p q = unfold as_number neg in rw (p, q)

  sum_turned : (s t : Bool) → as_number (sum f (not s) a (not t) b c) ≡ opposite (sum f s a t b c)
  unfolding sum
  sum_turned true true = ap as_number (sym (round_neg f true (a + b) c))
  sum_turned true false = apart_turned true false refl refl
  sum_turned false true = apart_turned false true refl refl
  sum_turned false false = ap as_number (sym (round_neg f false (a + b) c))

module _ (f : Format) where
  add_turned : (x y : Float) → as_number (add f (neg x) (neg y)) ≡ opposite (add f x y)
  unfolding add neg
  add_turned nan y = refl
  add_turned (inf s) nan = refl
  add_turned (inf true) (inf true) = refl
  add_turned (inf true) (inf false) = refl
  add_turned (inf false) (inf true) = refl
  add_turned (inf false) (inf false) = refl
  add_turned (inf s) (fin t n d) = refl
  add_turned (fin s m e) nan = refl
  add_turned (fin s m e) (inf t) = refl
  add_turned (fin s m e) (fin t n d) =
      sum_turned f (down e * down d) (mul-pos (down_pos e) (down_pos d)) (m * up e * down d) (n * up d * down e) s t

  pub add_opposite : (x y x' y' : Float) → as_number x' ≡ opposite x → as_number y' ≡ opposite y
      → as_number (add f x' y') ≡ opposite (add f x y)
  add_opposite x y x' y' h k = add_number f x' y' (neg x) (neg y) h k ∙ add_turned x y

  -- y - x is x - y turned
  pub sub_opposite : (x y : Float) → as_number (sub f y x) ≡ opposite (sub f x y)
  unfolding sub
  sub_opposite x y =
      ap as_number (add_commutes f y (neg x)) ∙ add_opposite x (neg y) (neg x) y refl (ap as_number (sym (neg_neg y)))

  pub mul_opposite : (x y y' : Float) → as_number y' ≡ opposite y → as_number (mul f x y') ≡ opposite (mul f x y)
  mul_opposite x y y' h = mul_number f x y' x (neg y) refl h ∙ ap as_number (mul_neg_right f x y)

  pub mul_opposite_left : (x y x' : Float) → as_number x' ≡ opposite x → as_number (mul f x' y) ≡ opposite (mul f x y)
  mul_opposite_left x y x' h = mul_number f x' y (neg x) y h refl ∙ ap as_number (mul_neg_left f x y)

  pub div_opposite : (x y x' : Float) → as_number x' ≡ opposite x → as_number (div f x' y) ≡ opposite (div f x y)
  div_opposite x y x' h = div_number f y x' (neg x) h ∙ ap as_number (div_neg_left f x y)

  pub rounded_opposite : (x x' : Float) → as_number x' ≡ opposite x → as_number (rounded f x') ≡ opposite (rounded f x)
  rounded_opposite x x' h = rounded_number f x' (neg x) h ∙ ap as_number (rounded_neg f x)

  pub square_opposite : (x x' : Float) → as_number x' ≡ opposite x → mul f x' x' ≡ mul f x x
  square_opposite x x' h =
      square_number f x' (neg x) h ∙ mul_neg_left f x (neg x) ∙ ap neg (mul_neg_right f x x) ∙ neg_neg (mul f x x)

pub magnitude_opposite : (x x' : Float) → as_number x' ≡ opposite x → magnitude x' ≡ magnitude x
magnitude_opposite x x' h = magnitude_number x' (neg x) h ∙ magnitude_neg x

-- above a bound: as much as the other is below its negative
pub above_opposite : (m x x' : Float) → as_number x' ≡ opposite x → lt m x' ≡ lt x (neg m)
above_opposite m x x' h =
    lt_number m x' (neg (neg m)) (neg x) (ap as_number (sym (neg_neg m))) h ∙ lt_neg (neg m) x

pub below_opposite : (m x x' : Float) → as_number x' ≡ opposite x → lt x' (neg m) ≡ lt m x
below_opposite m x x' h = lt_number x' (neg m) (neg x) (neg m) h refl ∙ lt_neg x m

-- as an integer, within the range: at its ends it is not so, since an i32 goes one further below 0 than above
pub to_signed_neg : (h : ℕ) (x : Float) → T (lt (magnitude x) (fin false 1 (pos h))) → to_signed h (neg x) ≡ neg_ℤ (to_signed h x)
unfolding neg magnitude lt
to_signed_neg h nan l = absurd l
to_signed_neg h (inf s) l = absurd l
to_signed_neg h (fin s m e) l =
    let q = m * up e / down e in
    let room : q < 2 ^ h = (div-lt_iff_lt-mul (down_pos e)).1 (omega (arith, ltb→lt (m * up e * 1) (1 * 2 ^ h * down e) l)) in
    signed_cut h (fin (not s) m e) (not s) (m * up e) (down e) (down_pos e) (refl, refl) room ∙ signed_not s q
    ∙ ap neg_ℤ (sym (signed_cut h (fin s m e) s (m * up e) (down e) (down_pos e) (refl, refl) room))
