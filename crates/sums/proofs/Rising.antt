-- Sums of what is not below zero, nor -0, do not fall: neither with a larger summand, nor below the one that they begin with if the format
-- has it; so do products by a number above zero. It stands beside `Plus`, whose numbers it speaks of. Assumes nothing.
use Rattle.std.proofs.Common.{ℕ, zero, suc, ◌+◌, ◌*◌, ◌≤◌, true, false, T, ℤ, refl, subst, mul-le-mul_right, mul-pos, arith}
use lib.Dec.{eqb-suc-zero}
use lib.Ieee.{Float, nan, inf, fin, Format, up, down, round, sum, add, mul, le, lt, eq, fits}
use lib.Ieee.Fits.{down_pos}
use lib.Ieee.Order.{round_mono}
use lib.Ieee.Positive.{positive}
use Rattle.ieee.proofs.Order.Signed.{AtMost, at_most_of_le}
use Rattle.ieee.proofs.Values.OneFloat.{round_own}
use Rattle.sums.specs.inner.Plus.{plus}
use Rattle.sums.proofs.Plus.{plus_round}

-- ---- over naturals: a / c up to a' / c', and b / d

with_more : (a c a' c' b d : ℕ) → a * c' ≤ a' * c → (a * d + b * c) * (c' * d) ≤ (a' * d + b * c') * (c * d)
with_more a c a' c' b d h = let k = mul-le-mul_right (d * d) h in omega (arith, k)

with_own : (a c b d : ℕ) → a * (c * d) ≤ (a * d + b * c) * c
with_own a c b d = omega arith

times_more : (a c a' c' b d : ℕ) → a * c' ≤ a' * c → a * b * (c' * d) ≤ a' * b * (c * d)
times_more a c a' c' b d h = let k = mul-le-mul_right (b * d) h in omega (arith, k)

-- ---- what is finite

at_most : (m : ℕ) (e : ℤ) (n : ℕ) (d : ℤ) → T (le (fin false m e) (fin false n d)) → m * up e * down d ≤ n * up d * down e
unfolding AtMost
at_most m e n d l =
    at_most_of_le false false (m * up e) (down e) (n * up d) (down d) (down_pos e) (down_pos d) (fin false m e) (fin false n d) (refl, refl)
    (refl, refl) l

-- ---- from zero up: a number, or ∞, which is past them all

pub data FromZero : Float → Type 0 where
  infinite : FromZero (inf false)
  number : (m : ℕ) (e : ℤ) → FromZero (fin false m e)

pub from_zero : (x : Float) → T (plus x) → FromZero x
from_zero nan p = absurd p
from_zero (inf true) p = absurd p
from_zero (inf false) p = infinite
from_zero (fin true m e) p = absurd p
from_zero (fin false m e) p = number m e

below_infinity : (x : Float) → FromZero x → T (le x (inf false))
unfolding le lt eq
below_infinity x infinite = tt
below_infinity x (number m e) = tt

-- ---- a sum, with a larger summand

pub add_rises : (f : Format) (x x' y : Float) → FromZero x → FromZero x' → FromZero y → T (le x x') → T (le (add f x y) (add f x' y))
unfolding add sum
add_rises f x x' y infinite infinite infinite l = unfold le lt eq in tt
add_rises f x x' y infinite infinite (number n d) l = unfold le lt eq in tt
add_rises f x x' y infinite (number m' e') b l = absurd (unfold le lt eq in l)
add_rises f x x' y (number m e) infinite infinite l = unfold le lt eq in tt
add_rises f x x' y (number m e) infinite (number n d) l = below_infinity _ (from_zero _ (plus_round f _ _))
add_rises f x x' y (number m e) (number m' e') infinite l = unfold le lt eq in tt
add_rises f x x' y (number m e) (number m' e') (number n d) l =
    round_mono f (m * up e * down d + n * up d * down e) (down e * down d) (m' * up e' * down d + n * up d * down e') (down e' * down d)
    (mul-pos (down_pos e) (down_pos d)) (mul-pos (down_pos e') (down_pos d))
    (with_more (m * up e) (down e) (m' * up e') (down e') (n * up d) (down d) (at_most m e m' e' l))

-- ---- and above a summand that the format has

pub add_above : (f : Format) (x y : Float) → FromZero x → FromZero y → T (fits f x) → T (le x (add f x y))
unfolding add sum
add_above f x y infinite infinite h = unfold le lt eq in tt
add_above f x y infinite (number n d) h = unfold le lt eq in tt
add_above f x y (number m e) infinite h = unfold le lt eq in tt
add_above f x y (number m e) (number n d) h =
    subst (λ (z : Float). T (le z (round f false (m * up e * down d + n * up d * down e) (down e * down d)))) (round_own f false m e h)
    (round_mono f (m * up e) (down e) (m * up e * down d + n * up d * down e) (down e * down d) (down_pos e)
    (mul-pos (down_pos e) (down_pos d)) (with_own (m * up e) (down e) (n * up d) (down d)))

-- ---- a product by a number above zero

pub mul_rises : (f : Format) (x x' y : Float) → FromZero x → FromZero x' → T (positive y) → T (le x x') → T (le (mul f x y) (mul f x' y))
unfolding mul
mul_rises f x x' nan a a' q l = absurd q
mul_rises f x x' (inf t) a a' q l = absurd q
mul_rises f x x' (fin true n d) a a' q l = absurd q
mul_rises f x x' (fin false zero d) a a' q l = absurd q
mul_rises f x x' (fin false (suc n) d) infinite infinite q l = rw (eqb-suc-zero n) (unfold le lt eq in tt)
mul_rises f x x' (fin false (suc n) d) infinite (number m' e') q l = absurd (unfold le lt eq in l)
mul_rises f x x' (fin false (suc n) d) (number m e) infinite q l =
    rw (eqb-suc-zero n) (below_infinity _ (from_zero _ (plus_round f _ _)))
mul_rises f x x' (fin false (suc n) d) (number m e) (number m' e') q l =
    round_mono f (m * up e * (suc n * up d)) (down e * down d) (m' * up e' * (suc n * up d)) (down e' * down d)
    (mul-pos (down_pos e) (down_pos d)) (mul-pos (down_pos e') (down_pos d))
    (times_more (m * up e) (down e) (m' * up e') (down e') (suc n * up d) (down d) (at_most m e m' e' l))
