-- A quotient of two values above zero rises with the dividend and falls as the divisor rises. Assumes nothing.
use mathlib.Core.Path.{◌≡◌}
use Prim.Native.Nat.{ℕ, ◌*◌, ◌≤◌, ◌<◌}
use native.Mathlib.Nat.{mul-le-mul, mul-pos}
use native.Mathlib.Omega.{arith}
use lib.Dec.{T}
use mathlib.Core.Bool.{false}
use lib.Ieee.{Float, Format, round, div, le}
use lib.Ieee.Order.{round_mono}
use lib.Ieee.Positive.{cross→le, den, den_pos, le→cross, num, own_value, positive, value_pos}
use Rattle.ieee.proofs.Values.ByValue.{div_values}

pub num_pos : (x : Float) → T (positive x) → 0 < num x
num_pos x p = value_pos x (num x) (den x) p (den_pos x) (own_value x p)

pub div_at : (f : Format) (x y : Float) → T (positive x) → T (positive y) → div f x y ≡ round f false (num x * den y) (num y * den x)
div_at f x y p q =
    div_values f x y false (num x) (den x) false (num y) (den y) (den_pos x) (den_pos y) (own_value x p) (own_value y q) (num_pos y q)

pub div_mono : (f : Format) (x x' y y' : Float) → T (positive x) → T (positive x') → T (positive y) → T (positive y') → T (le x x')
    → T (le y' y)
    → T (le (div f x y) (div f x' y'))
div_mono f x x' y y' p p' q q' h k =
    rw (div_at f x y p q, div_at f x' y' p' q')
    (round_mono f (num x * den y) (num y * den x) (num x' * den y') (num y' * den x') (mul-pos (num_pos y q) (den_pos x))
    (mul-pos (num_pos y' q') (den_pos x'))
    (regroup (num x) (den x) (num x') (den x') (num y) (den y) (num y') (den y')
    (mul-le-mul (le→cross x x' p p' h) (le→cross y' y q' q k))))
  where
    regroup : (a b a' b' c d c' d' : ℕ) → a * b' * (c' * d) ≤ a' * b * (c * d') → a * d * (c' * b') ≤ a' * d' * (c * b)
    regroup a b a' b' c d c' d' h = omega arith

pub div_anti : (f : Format) (x y y' : Float) → T (positive x) → T (positive y) → T (positive y') → T (le y y')
    → T (le (div f x y') (div f x y))
div_anti f x y y' p q q' h = div_mono f x x y' y p p q' q (cross→le x x p p (omega arith)) h
