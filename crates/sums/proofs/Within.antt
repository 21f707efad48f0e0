-- Floats up to a power of two stay finite: a difference is at most twice as large, a product at most the product, and rounding passes no
-- power of two. Assumes nothing.
use Rattle.std.proofs.Common.{◌≡◌, ℕ, suc, ◌+◌, ◌*◌, ◌^◌, ◌<◌, ◌≤◌, Bool, true, false, not, T, refl, subst, le_trans, mul-le-mul_right, mul-le-mul, mul-pos, arith, lit<, pow_pos, pow-add}
use native.Mathlib.Nat.{mul-lt-mul_of_pos_left, pow-succ'}
use lib.Pow.{pow-lt}
use lib.Ieee.{Float, nan, inf, fin, Format, prec, emax, low, up, down, unlike, neg, round, sum, add, sub, mul, div, le, is_nan}
use lib.Ieee.Exact.{HasValue, round_exact}
use lib.Ieee.Fits.{down_pos, two}
use lib.Ieee.Order.{round_mono}
use lib.Ieee.Positive.{num, den}
use lib.Ieee.Scale.{finite}
use Rattle.ieee.specs.Magnitude.{magnitude}
use Rattle.ieee.specs.Rounded.{rounded}
use Rattle.ieee.proofs.Order.Signed.{AtMost, at_most_of_le}
use Rattle.ieee.proofs.Patterns.Signs.{round_neg}
use Rattle.ieee.proofs.Values.ByValue.{div_values}
use Rattle.ieee.proofs.Values.Totals.{total_of}
use Rattle.sums.specs.inner.Plus.{plus}
use Rattle.sums.proofs.Plus.{plus_round}

-- finite, and at most b in size
pub record Within (b : ℕ) (x : Float) : Type 0 where
  pub finite_is : T (finite x)
  pub small : num x ≤ b * den x

pub within_number : (b : ℕ) (x : Float) → Within b x → T (not (is_nan x))
unfolding is_nan
within_number b nan w = absurd w.finite_is
within_number b (inf s) w = tt
within_number b (fin s m e) w = tt

-- the sign is nothing to it
pub within_neg : (b : ℕ) (x : Float) → Within b x → Within b (neg x)
unfolding neg
within_neg b nan w = w
within_neg b (inf s) w = absurd w.finite_is
within_neg b (fin s m e) w = record { finite_is = tt; small = w.small }

pub within_magnitude : (b : ℕ) (x : Float) → Within b (magnitude x) → Within b x
unfolding magnitude
within_magnitude b nan w = w
within_magnitude b (inf s) w = absurd w.finite_is
within_magnitude b (fin s m e) w = record { finite_is = tt; small = w.small }

-- what is not below zero and at most a whole number b is within b
pub within_le : (b : ℕ) (x y : Float) → T (plus x) → HasValue y false b 1 → T (le x y) → Within b x
unfolding le AtMost
within_le b nan y p v l = absurd p
within_le b (inf true) y p v l = absurd p
within_le b (inf false) nan p v l = absurd v
within_le b (inf false) (inf t) p v l = absurd v
within_le b (inf false) (fin t n d) p v l = absurd l
within_le b (fin true m e) y p v l = absurd p
within_le b (fin false m e) y p v l =
    let h = at_most_of_le false false (m * up e) (down e) b 1 (down_pos e) (lit< tt) (fin false m e) y (refl, refl) v l in
    record { finite_is = tt; small = omega (arith, h) }

pub within_most : (b c : ℕ) (x : Float) → b ≤ c → Within b x → Within c x
within_most b c x h w = record { finite_is = w.finite_is; small = le_trans w.small (mul-le-mul_right (den x) h) }

-- ---- rounding passes no whole number b that is a value of the format
abbrev pub Value : Format → ℕ → Type 0
Value f b = HasValue (round f false b 1) false b 1

module _ (f : Format) (b : ℕ) (v : Value f b) where
  within_plus : (a c : ℕ) → 0 < c → a ≤ b * c → Within b (round f false a c)
  within_plus a c C h =
      within_le b (round f false a c) (round f false b 1) (plus_round f a c) v (round_mono f a c b 1 C (lit< tt) (omega arith))

  pub within_value : (s : Bool) (a c : ℕ) → 0 < c → a ≤ b * c → Within b (round f s a c)
  within_value false a c C h = within_plus a c C h
  within_value true a c C h = rw (← round_neg f false a c) (within_neg b (round f false a c) (within_plus a c C h))

  pub within_rounded : (x : Float) → Within b x → Within b (rounded f x)
  unfolding rounded
  within_rounded nan w = w
  within_rounded (inf s) w = absurd w.finite_is
  within_rounded (fin s m e) w = within_value s (m * up e) (down e) (down_pos e) w.small

-- such are n * 2 ^ k, if n has no more digits than the format keeps
module _ (f : Format) (n k : ℕ) (few : n < 2 ^ prec f) (room : n * 2 ^ k < 2 ^ suc (emax f)) where
  units_are : n * 2 ^ (low f + k) ≡ 2 ^ low f * (n * 2 ^ k)
  units_are = rw (pow-add 2 (low f) k) (omega arith)

  pub multiple_value : Value f (n * 2 ^ k)
  multiple_value =
      round_exact f false (n * 2 ^ k) 1 n (low f + k) (lit< tt) few
      (rw (units_are, pow-add 2 (low f) (suc (emax f))) (mul-lt-mul_of_pos_left room (pow_pos (low f))))
      (rw units_are (omega arith))

pub power_value : (f : Format) (k : ℕ) → k ≤ emax f → Value f (2 ^ k)
power_value f k K =
    let one : 1 * 2 ^ k ≡ 2 ^ k = omega arith in
    subst (Value f) one (multiple_value f 1 k (pow-lt {i = 0} (omega (arith, two f))) (rw one (pow-lt (omega arith))))

pub zero_value : (f : Format) → Value f 0
zero_value f = multiple_value f 0 0 (pow_pos (prec f)) (pow_pos (suc (emax f)))

-- ---- sums
module _ (f : Format) (p q : ℕ) (v : Value f (p + q)) where
  within_total : (s t : Bool) (a b c d : ℕ) → 0 < c → 0 < d → a ≤ p * c → b ≤ q * d → Within (p + q) (sum f s (a * d) t (b * c) (c * d))
  within_total s t a b c d C D h g =
      let r = total_of f s (a * d) t (b * c) in
      let most = (r.placed (a * d + b * c) (omega arith)).0 in
      rw (r.is (c * d))
      (within_value f (p + q) v r.sign r.size (c * d) (mul-pos C D)
      (both (a * d) (b * c) r.size most (mul-le-mul_right d h) (mul-le-mul_right c g)))
    where
      both : (x y z : ℕ) → z ≤ x + y → x ≤ p * c * d → y ≤ q * d * c → z ≤ (p + q) * (c * d)
      both x y z l m n = omega arith

  within_sum : (x y : Float) → Within p x → Within q y → Within (p + q) (add f x y)
  unfolding add
  within_sum nan y v w = absurd v.finite_is
  within_sum (inf s) y v w = absurd v.finite_is
  within_sum (fin s m e) nan v w = absurd w.finite_is
  within_sum (fin s m e) (inf t) v w = absurd w.finite_is
  within_sum (fin s m e) (fin t n d) v w =
      within_total s t (m * up e) (n * up d) (down e) (down d) (down_pos e) (down_pos d) v.small w.small

-- one more of the size 2 ^ k to n of them
pub within_add : (f : Format) (k n : ℕ) (x y : Float) → suc n < 2 ^ prec f → suc n * 2 ^ k < 2 ^ suc (emax f)
    → Within (n * 2 ^ k) x → Within (2 ^ k) y → Within (suc n * 2 ^ k) (add f x y)
within_add f k n x y few room v w =
    let e : suc n * 2 ^ k ≡ n * 2 ^ k + 2 ^ k = omega arith in
    rw e (within_sum f (n * 2 ^ k) (2 ^ k) (subst (Value f) e (multiple_value f (suc n) k few room)) x y v w)

pub within_both : (f : Format) (k : ℕ) (x y : Float) → suc k ≤ emax f → Within (2 ^ k) x → Within (2 ^ k) y → Within (2 ^ suc k) (add f x y)
within_both f k x y K v w =
    let e : 2 ^ suc k ≡ 2 ^ k + 2 ^ k = rw (pow-succ' 2 k) (omega arith) in
    rw e (within_sum f (2 ^ k) (2 ^ k) (subst (Value f) e (power_value f (suc k) K)) x y v w)

pub within_sub : (f : Format) (k : ℕ) (x y : Float) → suc k ≤ emax f → Within (2 ^ k) x → Within (2 ^ k) y → Within (2 ^ suc k) (sub f x y)
unfolding sub
within_sub f k x y K v w = within_both f k x (neg y) K v (within_neg (2 ^ k) y w)

-- ---- products and quotients
pub within_product : (f : Format) (p q : ℕ) → Value f (p * q) → (x y : Float) → Within p x → Within q y → Within (p * q) (mul f x y)
unfolding mul
within_product f p q u nan y v w = absurd v.finite_is
within_product f p q u (inf s) y v w = absurd v.finite_is
within_product f p q u (fin s m e) nan v w = absurd w.finite_is
within_product f p q u (fin s m e) (inf t) v w = absurd w.finite_is
within_product f p q u (fin s m e) (fin t n d) v w =
    within_value f (p * q) u (unlike s t) (m * up e * (n * up d)) (down e * down d) (mul-pos (down_pos e) (down_pos d))
    (regroup (down e) (down d) (m * up e * (n * up d)) (mul-le-mul v.small w.small))
  where
    regroup : (e d a : ℕ) → a ≤ p * e * (q * d) → a ≤ p * q * (e * d)
    regroup e d a h = omega arith

pub within_mul : (f : Format) (k l : ℕ) (x y : Float) → k + l ≤ emax f → Within (2 ^ k) x → Within (2 ^ l) y
    → Within (2 ^ (k + l)) (mul f x y)
within_mul f k l x y K v w =
    let e = pow-add 2 k l in
    rw e (within_product f (2 ^ k) (2 ^ l) (subst (Value f) e (power_value f (k + l) K)) x y v w)

-- by a whole number n
pub within_div : (f : Format) (b n : ℕ) → Value f b → 0 < n → (x y : Float) → HasValue y false n 1 → Within (b * n) x → Within b (div f x y)
within_div f b n v N nan y k w = absurd w.finite_is
within_div f b n v N (inf s) y k w = absurd w.finite_is
within_div f b n v N (fin s m e) y k w =
    rw (div_values f (fin s m e) y s (m * up e) (down e) false n 1 (down_pos e) (lit< tt) (refl, refl) k N)
    (within_value f b v (unlike s false) (m * up e * 1) (n * down e) (mul-pos N (down_pos e)) (omega (arith, w.small)))
