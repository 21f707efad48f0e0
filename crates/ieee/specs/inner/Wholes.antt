-- Floats that are whole numbers, as the laws on them need it: by sign and size, with a zero of either sign, and without a gap.
use Rattle.std.specs.Prelude.{◌≡◌, Bool, true, false, ℕ, ◌^◌, ◌≤◌, ℤ, pos, neg_ℤ, nat_abs, Float}
use Rattle.std.specs.Float.{Format}
use Rattle.std.specs.Float.Ieee.{prec}
use Rattle.std.specs.Float.Ieee.Exact.{HasValue}
use Rattle.ieee.specs.WholeNumber.{IsWhole}

-- the integer of a sign and a size
abbrev pub signed : Bool → ℕ → ℤ
signed false n = pos n
signed true n = neg_ℤ (pos n)

-- x is the integer z, as a zero of either sign: 0 * -1 is -0
pub record EqualsWhole (x : Float) (z : ℤ) : Type 0 where
  pub sign : Bool
  pub size : ℕ
  pub value : HasValue x sign size 1
  pub is : signed sign size ≡ z

-- x is some integer up to 2 ^ prec either way: among those the format has no gap
pub record SmallWhole (f : Format) (x : Float) : Type 0 where
  pub at : ℤ
  pub small : nat_abs at ≤ 2 ^ prec f
  pub is : IsWhole x at
