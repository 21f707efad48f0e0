-- Where a vertex stands in the list, and that no bound is ever a NaN. Assumes nothing.
use Rattle.std.proofs.Common.{◌≡◌, ℕ, zero, suc, ◌+◌, ◌*◌, ◌<◌, Bool, true, false, cond, List, refl, arith, lit<}
use lib.Ieee.{Float, is_nan, lt}
use lib.Ieee.Bits.{is_false}
use Rattle.ieee.specs.Order.{least, greatest}
use Rattle.ieee.proofs.Order.Comparison.{lt_left, lt_right}
use Rattle.vertices.specs.Vertices.{coordinate}
use Rattle.sums.specs.declared.bounds.Bounds.{Bounds}
use Rattle.sums.specs.Box.{box_to, lowest, highest}

-- where vertex v has its x
pub first_axis : (v : ℕ) → 3 * v + 0 ≡ 3 * v
first_axis v = omega arith

-- ---- a bound is no NaN, whatever the coordinates are
one_of : (b : Bool) (x y : Float) → (b ≡ true → is_nan y ≡ false) → is_nan x ≡ false → is_nan (cond b y x) ≡ false
one_of true x y p h = p refl
one_of false x y p h = h

least_number : (x y : Float) → is_nan x ≡ false → is_nan (least x y) ≡ false
unfolding least
least_number x y h = rw h (one_of (lt y x) x y (λ e. is_false (is_nan y) (lt_left y x e)) h)

greatest_number : (x y : Float) → is_nan x ≡ false → is_nan (greatest x y) ≡ false
unfolding greatest
greatest_number x y h = rw h (one_of (lt x y) x y (λ e. is_false (is_nan y) (lt_right x y e)) h)

pub lowest_number : (vs : List Float) (axis n : ℕ) → is_nan (lowest vs axis n) ≡ false
unfolding lowest is_nan
lowest_number vs axis zero = refl
lowest_number vs axis (suc n) = least_number (lowest vs axis n) (coordinate vs axis n) (lowest_number vs axis n)

highest_number : (vs : List Float) (axis n : ℕ) → is_nan (highest vs axis n) ≡ false
unfolding highest is_nan
highest_number vs axis zero = refl
highest_number vs axis (suc n) = greatest_number (highest vs axis n) (coordinate vs axis n) (highest_number vs axis n)

-- ---- what each of a box's six numbers is

pub record Each (P : Float → Type 0) (b : Bounds) : Type 0 where
  pub xmin : P b.xmin
  pub ymin : P b.ymin
  pub zmin : P b.zmin
  pub xmax : P b.xmax
  pub ymax : P b.ymax
  pub zmax : P b.zmax

pub each_to : (P : Float → Type 0) (vs : List Float) (n : ℕ) → ((axis : ℕ) → axis < 3 → P (lowest vs axis n) × P (highest vs axis n))
    → Each P (box_to vs n)
unfolding box_to
each_to P vs n h =
    let x = h 0 (lit< tt) in
    let y = h 1 (lit< tt) in
    let z = h 2 (lit< tt) in
    record { xmin = x.0; ymin = y.0; zmin = z.0; xmax = x.1; ymax = y.1; zmax = z.1 }

abbrev pub Numbers : Bounds → Type 0
Numbers = Each (λ x. is_nan x ≡ false)

pub bounds_numbers : (vs : List Float) (v : ℕ) (b : Bounds) → b ≡ box_to vs v → Numbers b
bounds_numbers vs v b e = rw e (each_to (λ x. is_nan x ≡ false) vs v (λ axis l. (lowest_number vs axis v, highest_number vs axis v)))
