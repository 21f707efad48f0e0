-- The operators and the other sign: a product, a quotient, a conversion and the order turn with it. Assumes nothing.
use mathlib.Core.Path.{◌≡◌, refl, sym, ◌∙◌, ap}
use mathlib.Core.Bool.{Bool, true, false, not, beq, cond, not-not, and-true, and-false}
use Prim.Native.Nat.{ℕ, zero, suc, ◌*◌, ◌<◌}
use native.Mathlib.Nat.{add_comm, mul_comm}
use native.Mathlib.Omega.{arith}
use lib.Dec.{eqb}
use lib.IntN.{ℤ, pos, negsuc, neg_ℤ, nat_abs}
use lib.Ieee.{Float, nan, inf, fin, Format, up, down, unlike, round, mul, div, neg, below, lt, le, eq, of_int}
use Rattle.ieee.specs.Integral.{Way, half, to_whole, integral, half_away}
use Rattle.ieee.specs.Magnitude.{magnitude}
use Rattle.ieee.specs.Rounded.{rounded}
use Rattle.ieee.proofs.Order.Comparison.{eq_comm, lt_nan}
use Rattle.ieee.proofs.Patterns.Signs.{neg_cond, round_neg}

pub neg_neg : (x : Float) → neg (neg x) ≡ x
unfolding neg
neg_neg nan = refl
neg_neg (inf s) = rw (not-not s)
neg_neg (fin s m e) = rw (not-not s)

pub magnitude_neg : (x : Float) → magnitude (neg x) ≡ magnitude x
unfolding neg magnitude
magnitude_neg nan = refl
magnitude_neg (inf s) = refl
magnitude_neg (fin s m e) = refl

-- ---- products and quotients
unlike_left : (s t : Bool) → unlike (not s) t ≡ not (unlike s t)
unlike_left true true = refl
unlike_left true false = refl
unlike_left false true = refl
unlike_left false false = refl

unlike_comm : (s t : Bool) → unlike s t ≡ unlike t s
unlike_comm true true = refl
unlike_comm true false = refl
unlike_comm false true = refl
unlike_comm false false = refl

module _ (f : Format) where
  mul_nan : (x : Float) → mul f x nan ≡ nan
  unfolding mul
  mul_nan nan = refl
  mul_nan (inf s) = refl
  mul_nan (fin s m e) = refl

  pub mul_commutes : (x y : Float) → mul f x y ≡ mul f y x
  unfolding mul
  mul_commutes nan y = sym (mul_nan y)
  mul_commutes (inf s) nan = refl
  mul_commutes (inf s) (inf t) = rw (unlike_comm s t)
  mul_commutes (inf s) (fin t n d) = rw (unlike_comm s t)
  mul_commutes (fin s m e) nan = refl
  mul_commutes (fin s m e) (inf t) = rw (unlike_comm s t)
  mul_commutes (fin s m e) (fin t n d) = rw (unlike_comm s t, mul_comm (m * up e) (n * up d), mul_comm (down e) (down d))

  pub mul_neg_left : (x y : Float) → mul f (neg x) y ≡ neg (mul f x y)
  unfolding mul neg
  mul_neg_left nan y = refl
  mul_neg_left (inf s) nan = refl
  mul_neg_left (inf s) (inf t) = rw (unlike_left s t)
  mul_neg_left (inf s) (fin t n d) = rw (unlike_left s t, neg_cond)
  mul_neg_left (fin s m e) nan = refl
  mul_neg_left (fin s m e) (inf t) = rw (unlike_left s t, neg_cond)
  mul_neg_left (fin s m e) (fin t n d) = rw (unlike_left s t, round_neg)

  pub mul_neg_right : (x y : Float) → mul f x (neg y) ≡ neg (mul f x y)
  mul_neg_right x y = mul_commutes x (neg y) ∙ mul_neg_left y x ∙ ap neg (mul_commutes y x)

  -- p: the divisor is zero; q: the dividend is
  neg_quotient : (p q s : Bool) (a c : ℕ) → cond p (cond q nan (inf (not s))) (round f (not s) a c)
      ≡ neg (cond p (cond q nan (inf s)) (round f s a c))
  unfolding neg
  neg_quotient true true s a c = refl
  neg_quotient true false s a c = refl
  neg_quotient false q s a c = sym (round_neg f s a c)

  pub div_neg_left : (x y : Float) → div f (neg x) y ≡ neg (div f x y)
  unfolding div neg
  div_neg_left nan y = refl
  div_neg_left (inf s) nan = refl
  div_neg_left (inf s) (inf t) = refl
  div_neg_left (inf s) (fin t n d) = rw (unlike_left s t)
  div_neg_left (fin s m e) nan = refl
  div_neg_left (fin s m e) (inf t) = rw (unlike_left s t)
  div_neg_left (fin s m e) (fin t n d) =
      rw (unlike_left s t) (neg_quotient (eqb n 0) (eqb m 0) (unlike s t) (m * up e * down d) (n * up d * down e))

-- ---- order
below_neg : (s t : Bool) (a b : ℕ) → below (not s) a (not t) b ≡ below t b s a
below_neg true true a b = refl
below_neg true false a b = refl
below_neg false true a b = rw (add_comm a b)
below_neg false false a b = refl

beq_neg : (s t : Bool) → beq (not s) (not t) ≡ beq s t
beq_neg true true = refl
beq_neg true false = refl
beq_neg false true = refl
beq_neg false false = refl

pub lt_neg : (x y : Float) → lt (neg x) (neg y) ≡ lt y x
unfolding lt neg
lt_neg nan y = sym (lt_nan y)
lt_neg (inf s) nan = refl
lt_neg (inf true) (inf t) = sym (and-false t)
lt_neg (inf false) (inf t) = not-not t ∙ sym (and-true t)
lt_neg (inf s) (fin t n d) = refl
lt_neg (fin s m e) nan = refl
lt_neg (fin s m e) (inf t) = not-not t
lt_neg (fin s m e) (fin t n d) = below_neg s t (m * up e * down d) (n * up d * down e)

pub eq_neg : (x y : Float) → eq (neg x) (neg y) ≡ eq x y
unfolding eq neg
eq_neg nan y = refl
eq_neg (inf s) nan = refl
eq_neg (inf s) (inf t) = beq_neg s t
eq_neg (inf s) (fin t n d) = refl
eq_neg (fin s m e) nan = refl
eq_neg (fin s m e) (inf t) = refl
eq_neg (fin s m e) (fin t n d) = rw (beq_neg s t)

pub le_neg : (x y : Float) → le (neg x) (neg y) ≡ le y x
unfolding le
le_neg x y = rw (lt_neg x y, eq_neg x y, eq_comm x y)

-- ---- conversions
pub rounded_neg : (f : Format) (x : Float) → rounded f (neg x) ≡ neg (rounded f x)
unfolding rounded neg
rounded_neg f nan = refl
rounded_neg f (inf s) = refl
rounded_neg f (fin s m e) = sym (round_neg f s (m * up e) (down e))

-- the two ways change places
pub integral_neg : (f : Format) (v w : Way) (x : Float) → integral f v w (neg x) ≡ neg (integral f w v x)
unfolding integral neg
integral_neg f v w nan = refl
integral_neg f v w (inf s) = refl
integral_neg f v w (fin true m e) = sym (round_neg f true (to_whole v (m * up e) (down e)) 1)
integral_neg f v w (fin false m e) = sym (round_neg f false (to_whole w (m * up e) (down e)) 1)

pub half_away_neg : (f : Format) (x : Float) → half_away f (neg x) ≡ neg (half_away f x)
half_away_neg f x = integral_neg f half half x

-- 0 has one sign only
pub of_int_neg : (f : Format) (z : ℤ) → 0 < nat_abs z → of_int f (neg_ℤ z) ≡ neg (of_int f z)
unfolding of_int
of_int_neg f (pos zero) h = absurd (omega arith)
of_int_neg f (pos (suc n)) h = sym (round_neg f false (suc n) 1)
of_int_neg f (negsuc n) h = sym (round_neg f true (suc n) 1)
