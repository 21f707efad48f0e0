-- What `<=` of two finite floats says of their signs and sizes, by any fractions that the sizes equal. Assumes nothing.
use mathlib.Core.Path.{◌≡◌, subst}
use mathlib.Core.Bool.{Bool, true, false, ◌||◌}
use Prim.Native.Nat.{ℕ, ◌+◌, ◌*◌, ◌≤◌, ◌<◌}
use native.Mathlib.Nat.{mul_comm, mul-pos}
use native.Mathlib.Omega.{arith}
use lib.Dec.{T, leb→le, le→leb}
use lib.Ieee.{Float, below, level, le}
use lib.Ieee.Exact.{HasValue}
use Rattle.ieee.proofs.Values.ByValue.{le_values, scale_value}
use Rattle.ieee.proofs.Order.Ranks.{le_rank, rank}

-- ±a is at most ±b; a zero has either sign
unfoldable pub AtMost : Bool → ℕ → Bool → ℕ → Type 0
AtMost false a false b = a ≤ b
AtMost false a true b = (a ≡ 0) × (b ≡ 0)
AtMost true a false b = 0 ≤ a
AtMost true a true b = b ≤ a

pub at_most_self : (s : Bool) (a : ℕ) → AtMost s a s a
unfolding AtMost
at_most_self false a = omega arith
at_most_self true a = omega arith

-- ---- as ranks
pub at_most_ranks : (n : ℕ) (s : Bool) (a : ℕ) (t : Bool) (b : ℕ) → a ≤ n → b ≤ n → rank n s a ≤ rank n t b → AtMost s a t b
unfolding AtMost
at_most_ranks n false a false b A B l = omega arith
at_most_ranks n false a true b A B l = (omega arith, omega arith)
at_most_ranks n true a false b A B l = omega arith
at_most_ranks n true a true b A B l = omega arith

ranks_at_most : (n : ℕ) (s : Bool) (a : ℕ) (t : Bool) (b : ℕ) → a ≤ n → b ≤ n → AtMost s a t b → rank n s a ≤ rank n t b
unfolding AtMost
ranks_at_most n false a false b A B h = omega arith
ranks_at_most n false a true b A B h = let x = h.0 in let y = h.1 in omega arith
ranks_at_most n true a false b A B h = omega arith
ranks_at_most n true a true b A B h = omega arith

-- ---- as the model's test
module _ (s : Bool) (a : ℕ) (t : Bool) (b : ℕ) where
  abbrev Test : Bool
  Test = below s a t b || level s a t b

  A : a ≤ a + b
  A = omega arith

  B : b ≤ a + b
  B = omega arith

  pub at_most : T Test → AtMost s a t b
  at_most h = at_most_ranks (a + b) s a t b A B (leb→le (rank (a + b) s a) (rank (a + b) t b) (rw (le_rank (a + b) a b A B s t) at h))

  at_most_test : AtMost s a t b → T Test
  at_most_test h = rw (le_rank (a + b) a b A B s t) (le→leb (rank (a + b) s a) (rank (a + b) t b) (ranks_at_most (a + b) s a t b A B h))

-- ---- of x = ±a / c and y = ±b / d
module _ (s t : Bool) (a c b d : ℕ) (C : 0 < c) (D : 0 < d) (x y : Float) (h : HasValue x s a c) (k : HasValue y t b d) where
  le_is : le x y ≡ Test s (a * d) t (b * c)
  le_is =
      le_values x y s (a * d) t (b * c) (c * d) (mul-pos C D) (scale_value x s a c d h)
      (subst (λ (z : ℕ). HasValue y t (b * c) z) (mul_comm d c) (scale_value y t b d c k))

  pub at_most_of_le : T (le x y) → AtMost s (a * d) t (b * c)
  at_most_of_le l = at_most s (a * d) t (b * c) (rw le_is at l)

  pub le_of_at_most : AtMost s (a * d) t (b * c) → T (le x y)
  le_of_at_most l = rw le_is (at_most_test s (a * d) t (b * c) l)
