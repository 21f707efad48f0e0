-- A signed sum from two counts. Assumes nothing.
use mathlib.Core.Path.{◌≡◌, refl}
use mathlib.Core.Bool.{Bool, true, false, ◌&&◌}
use mathlib.Core.List.{List, [], ◌∷◌}
use Prim.Native.Nat.{ℕ, zero, suc, ◌+◌}
use native.Mathlib.Omega.{arith}
use lib.IntN.{ℤ, pos, negsuc, suc_ℤ, pred_ℤ, nat_abs}
use Rattle.ids.specs.Uses.{Use, uses, signed_sum, counting, bit}
use Rattle.table.specs.inner.Counts.{sum_size}
use Rattle.table.specs.inner.Table.{ups}

-- z is u - (n - u), with u ≤ n
Twice : ℤ → ℕ → ℕ → Type 0
Twice (pos a) n u = u + u ≡ n + a
Twice (negsuc a) n u = u + u + suc a ≡ n

twice_up : (z : ℤ) (n u : ℕ) → Twice z n u → Twice (suc_ℤ z) (1 + n) (1 + u)
unfolding Twice
twice_up (pos a) n u e = omega arith
twice_up (negsuc zero) n u e = omega arith
twice_up (negsuc (suc a)) n u e = omega arith

twice_down : (z : ℤ) (n u : ℕ) → Twice z n u → Twice (pred_ℤ z) (1 + n) (0 + u)
unfolding Twice
twice_down (pos zero) n u e = omega arith
twice_down (pos (suc a)) n u e = omega arith
twice_down (negsuc a) n u e = omega arith

twice_none : (z : ℤ) (n u : ℕ) → Twice z n u → Twice z (0 + n) (0 + u)
unfolding Twice
twice_none (pos a) n u e = omega arith
twice_none (negsuc a) n u e = omega arith

twice_more : (b v : Bool) (z : ℤ) (n u : ℕ) → Twice z n u → Twice (counting b v z) (bit b + n) (bit (b && v) + u)
unfolding counting bit
twice_more false v z n u e = twice_none z n u e
twice_more true true z n u e = twice_up z n u e
twice_more true false z n u e = twice_down z n u e

twice_size : (z : ℤ) (n u : ℕ) → Twice z n u → nat_abs z ≡ sum_size n u
unfolding Twice sum_size
twice_size (pos a) n u e = omega arith
twice_size (negsuc a) n u e = omega arith

module _ {K : Type 0} (same : K → K → Bool) (k : K) where
  twice : (es : List (Use K)) → Twice (signed_sum same k es) (uses same k es) (ups same k es)
  unfolding signed_sum uses ups Twice
  twice [] = refl
  twice (e ∷ es) = twice_more (same k e.key) e.up (signed_sum same k es) (uses same k es) (ups same k es) (twice es)

  -- the magnitude of the signed sum, by the counts that a table keeps
  pub sized : (es : List (Use K)) → nat_abs (signed_sum same k es) ≡ sum_size (uses same k es) (ups same k es)
  sized es = twice_size (signed_sum same k es) (uses same k es) (ups same k es) (twice es)
