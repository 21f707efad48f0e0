-- Whether 8 * A ^ 3 is above B ^ 2 * 2 ^ k, for A = a * 2 ^ x and B = b * 2 ^ y: a power of two on one side is enough. Assumes nothing.
use mathlib.Core.Path.{◌≡◌, ◌∙◌}
use mathlib.Core.Bool.{Bool}
use Prim.Native.Nat.{ℕ, ◌+◌, ◌-◌, ◌*◌, ◌/◌, ◌^◌}
use native.Mathlib.Omega.{arith}
use lib.Dec.{ltb}
use lib.Pow.{pow-add}
use Rattle.ieee.proofs.Numbers.Scales.{lt_power_left, lt_power_right}

squared : (b y k : ℕ) → b * b * 2 ^ (2 * y + k) ≡ b * 2 ^ y * (b * 2 ^ y) * 2 ^ k
squared b y k = let e : 2 * y + k ≡ y + y + k = omega arith in rw (e, pow-add 2 (y + y) k, pow-add 2 y y) (regroup (2 ^ y) (2 ^ k))
  where
    regroup : (p q : ℕ) → b * b * (p * p * q) ≡ b * p * (b * p) * q
    regroup p q = omega arith

cubed : (a x : ℕ) → a * a * a * 2 ^ (3 * x + 3) ≡ 8 * (a * 2 ^ x * (a * 2 ^ x) * (a * 2 ^ x))
cubed a x =
    let e : 3 * x + 3 ≡ x + x + x + 3 = omega arith in rw (e, pow-add 2 (x + x + x) 3, pow-add 2 (x + x) x, pow-add 2 x x) (regroup (2 ^ x))
  where
    regroup : (p : ℕ) → a * a * a * (p * p * p * 8) ≡ 8 * (a * p * (a * p) * (a * p))
    regroup p = omega arith

module _ (a x b y k : ℕ) where
  abbrev Sizes : Bool
  Sizes = ltb (b * 2 ^ y * (b * 2 ^ y) * 2 ^ k) (8 * (a * 2 ^ x * (a * 2 ^ x) * (a * 2 ^ x)))

  -- e is what the two powers differ by, whichever way it was worked out
  pub power_at_square : (e : ℕ) → e + (3 * x + 3) ≡ 2 * y + k → ltb (b * b * 2 ^ e) (a * a * a) ≡ Sizes
  power_at_square e h =
      let is : e ≡ 2 * y + k - (3 * x + 3) = omega arith in
      rw is (lt_power_left (b * b) (a * a * a) (2 * y + k) (3 * x + 3) (omega arith) ∙ rw (squared b y k, cubed a x))

  pub power_at_cube : (e : ℕ) → e + (2 * y + k) ≡ 3 * x + 3 → ltb (b * b / 2 ^ e) (a * a * a) ≡ Sizes
  power_at_cube e h =
      let is : e ≡ 3 * x + 3 - (2 * y + k) = omega arith in
      rw is (lt_power_right (b * b) (a * a * a) (2 * y + k) (3 * x + 3) (omega arith) ∙ rw (squared b y k, cubed a x))
