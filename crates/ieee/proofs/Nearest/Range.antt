-- A rounded number is finite below the middle of the largest value and the next power of two, and an infinity from there on.
-- Assumes nothing.
use mathlib.Core.Path.{◌≡◌, refl, sym, ap, ◌∙◌, subst}
use mathlib.Core.Bool.{Bool, false}
use Prim.Native.Nat.{ℕ, suc, ◌+◌, ◌-◌, ◌*◌, ◌^◌, ◌≤◌, ◌<◌}
use native.Mathlib.Decide.{dec_lt}
use native.Mathlib.Nat.{le_of_eq, le_trans, lt_of_not-le, mul-le-mul_right, mul-lt-mul_of_pos_right, mul-one}
use native.Mathlib.Omega.{arith}
use borrow.Author.Tests.{le-ltb, lt-ltb, ltb-false}
use lib.Dec.{T, ltb}
use lib.Pow.{ones_lt, pow_pos}
use lib.Ieee.{Float, nan, inf, fin, Format, binary32, binary64, prec, emax, low, round, le}
use lib.Ieee.Fits.{round_is}
use lib.Ieee.Order.{drop, kept, round_mono}
use lib.Ieee.Scale.{finite, grid, overflow}
use Rattle.ieee.proofs.Nearest.Rounded.{near}
use Rattle.ieee.proofs.Patterns.Packing.{units_inf}
use Rattle.ieee.proofs.Values.OneFloat.{finite_is}

-- IEEE 754-2019 4.3.1: 2 ^ emax * (2 - 2 ^ -prec)
abbrev limit : Format → ℕ
limit f = (2 ^ suc (prec f) - 1) * 2 ^ (emax f - prec f)

-- In units of 2 ^ (2 * emax - 1) smallest values the largest value is p = 2 ^ prec - 1, the power of two p + 1, and the limit p + 1/2.
limit_twice : (f : Format) → limit f * (2 * 2 ^ low f) ≡ (2 * (2 ^ prec f - 1) + 1) * 2 ^ (2 * emax f - 1)
limit_twice binary32 = refl
limit_twice binary64 = refl

overflow_is : (f : Format) → overflow f ≡ (2 ^ prec f - 1 + 1) * 2 ^ (2 * emax f - 1)
overflow_is binary32 = refl
overflow_is binary64 = refl

-- a / b below the limit m is nearer to the largest value p * c than to any r from (p + 1) * c on
below_middle : (p c l b a r m : ℕ) → 0 < l → 0 < c → m * (2 * l) ≡ (2 * p + 1) * c → (p + 1) * c ≤ r
    → (p * c < r → (r + p * c) * b ≤ 2 * (a * l))
    → a < m * b → ⊥
below_middle p c l b a r m L C e g side h =
    let up : (r + p * c) * b ≤ 2 * (a * l) = side (omega arith) in
    omega (arith, mul-lt-mul_of_pos_right h L, mul-le-mul_right b g, ap (λ (z : ℕ). z * b) e)

-- at the limit, a tie, the even one is the infinity
limit_inf : (f : Format) → round f false (limit f) 1 ≡ inf false
unfolding round
limit_inf binary32 = refl
limit_inf binary64 = refl

from_inf : (x : Float) → T (le (inf false) x) → finite x ≡ false
unfolding le
from_inf nan h = refl
from_inf (inf s) h = refl
from_inf (fin s m e) h = absurd h

module _ (f : Format) (s : Bool) (a b : ℕ) (B : 0 < b) where
  reached : a < limit f * b → grid f a b < overflow f
  reached h =
      let j = 2 * emax f - 1 in
      lt_of_not-le
      (λ (g : overflow f ≤ grid f a b).
      below_middle (2 ^ prec f - 1) (2 ^ j) (2 ^ low f) b a (grid f a b) (limit f) (pow_pos (low f)) (pow_pos j) (limit_twice f)
      (le_trans (le_of_eq (sym (overflow_is f))) g) (near f a b B (2 ^ prec f - 1) j (ones_lt (prec f))).below h)

  -- by the order that `round` keeps
  past : limit f * b ≤ a → finite (round f s a b) ≡ false
  past h =
      finite_is f s a b
      ∙ sym (finite_is f false a b)
      ∙ from_inf (round f false a b) (subst (λ (z : Float). T (le z (round f false a b))) (limit_inf f)
      (round_mono f (limit f) 1 a b (pow_pos 0) B (le_trans h (le_of_eq (sym (mul-one a))))))

  pub round_finite : finite (round f s a b) ≡ ltb a ((2 ^ suc (prec f) - 1) * 2 ^ (emax f - prec f) * b)
  round_finite =
      elim (dec_lt a (limit f * b)) [
        | yes h ↦ finite_is f s a b ∙ rw (lt-ltb a (limit f * b) h) (lt-ltb (grid f a b) (overflow f) (reached h))
        | no h ↦ rw (le-ltb a (limit f * b) (omega arith)) (past (omega arith))
      ]

  pub round_inf : (2 ^ suc (prec f) - 1) * 2 ^ (emax f - prec f) * b ≤ a → round f s a b ≡ inf s
  round_inf h =
      let n = a * 2 ^ low f in
      round_is f s a b
      ∙ units_inf f s (kept (prec f) n b) (drop (prec f) n b) (ltb-false (grid f a b) (overflow f) (sym (finite_is f s a b) ∙ past h))
