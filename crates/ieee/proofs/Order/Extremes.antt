-- The lesser and the greater of two floats: one of the two, and of two that are no NaN a bound of both. Assumes nothing.
use mathlib.Core.Path.{◌≡◌, refl}
use mathlib.Core.Bool.{Bool, true, false, not, cond, ◌||◌}
use lib.Dec.{T}
use lib.Ieee.{Float, lt, le, is_nan}
use lib.Ieee.Bits.{is_false}
use Rattle.ieee.specs.Order.{least, greatest}
use Rattle.ieee.proofs.Order.Comparison.{le_of_not_lt, le_refl, le_right, le_trans, lt_le}

-- ---- what holds of both holds of the one that is taken
either : (P : Float → Type 0) (b : Bool) (x y : Float) → P x → P y → P (cond b y x)
either P true x y p q = q
either P false x y p q = p

pub least_from : (P : Float → Type 0) (x y : Float) → P x → P y → P (least x y)
unfolding least
least_from P x y p q = either P (is_nan x || lt y x) x y p q

pub greatest_from : (P : Float → Type 0) (x y : Float) → P x → P y → P (greatest x y)
unfolding greatest
greatest_from P x y p q = either P (is_nan x || lt x y) x y p q

-- ---- bounds
module _ (x y : Float) (p : T (not (is_nan x))) (q : T (not (is_nan y))) where
  lower : (b : Bool) → lt y x ≡ b → T (le (cond b y x) x) × T (le (cond b y x) y)
  lower true h = (lt_le y x (rw h tt), le_refl y q)
  lower false h = (le_refl x p, le_of_not_lt x y p q h)

  upper : (b : Bool) → lt x y ≡ b → T (le x (cond b y x)) × T (le y (cond b y x))
  upper true h = (lt_le x y (rw h tt), le_refl y q)
  upper false h = (le_refl x p, le_of_not_lt y x q p h)

  least_both : T (le (least x y) x) × T (le (least x y) y)
  unfolding least
  least_both = rw (is_false (is_nan x) p) (lower (lt y x) refl)

  greatest_both : T (le x (greatest x y)) × T (le y (greatest x y))
  unfolding greatest
  greatest_both = rw (is_false (is_nan x) p) (upper (lt x y) refl)

  pub least_left : T (le (least x y) x)
  least_left = least_both.0

  pub least_right : T (le (least x y) y)
  least_right = least_both.1

  pub greatest_left : T (le x (greatest x y))
  greatest_left = greatest_both.0

  pub greatest_right : T (le y (greatest x y))
  greatest_right = greatest_both.1

-- ---- both rise with x and with y
module _ (x x' y y' : Float) (h : T (le x x')) (k : T (le y y')) where
  pub greatest_mono : T (le (greatest x y) (greatest x' y'))
  greatest_mono =
      greatest_from (λ z. T (le z (greatest x' y'))) x y
      (le_trans x x' (greatest x' y') h (greatest_left x' y' (le_right x x' h) (le_right y y' k)))
      (le_trans y y' (greatest x' y') k (greatest_right x' y' (le_right x x' h) (le_right y y' k)))
