-- What the rows count is what the keys count: the number of those that pass a test, and the largest magnitude. Assumes nothing.
use mathlib.Core.Path.{◌≡◌, refl, ap, ◌∙◌}
use mathlib.Core.Bool.{Bool}
use mathlib.Core.List.{List}
use Prim.Native.Nat.{ℕ, zero, suc, ◌<◌}
use native.Mathlib.Omega.{arith}
use lib.IntN.{nat_abs}
use Rattle.ids.specs.Uses.{Use, uses, signed_sum, bit, keys_that, largest_sum}
use Rattle.table.specs.inner.Rows.{sum_to}
use Rattle.table.specs.inner.Counts.{sum_size}
use Rattle.table.specs.inner.Table.{max_to, gate, Rows}
use Rattle.table.proofs.Sums.{sum_to_same}
use Rattle.table.proofs.Signed.{sized}
use Rattle.table.proofs.Largest.{maxes, max_to_same}

module _ {K : Type 0} (same : K → K → Bool) (n : ℕ) (key : ℕ → K) (cnt up : ℕ → ℕ) (es : List (Use K)) (m : Rows same n key cnt up es) where
  -- a function of a used row's counts is one of its key's uses and sum
  row : (g : ℕ → ℕ → ℕ) (i : ℕ) → i < n → (c : ℕ) → cnt i ≡ c
      → gate (cnt i) (g (cnt i) (sum_size (cnt i) (up i))) ≡ gate (cnt i) (g (uses same (key i) es) (nat_abs (signed_sum same (key i) es)))
  unfolding gate
  row g i l zero e = rw e
  row g i l (suc c) e = ap (gate (cnt i)) (rw (sized same (key i) es, ← m.counted i l (omega arith), ← m.upped i l (omega arith)))

  pub rows_that : (test : ℕ → ℕ → Bool) → sum_to (λ i. gate (cnt i) (bit (test (cnt i) (sum_size (cnt i) (up i))))) n ≡ keys_that same test es
  unfolding keys_that
  rows_that test =
      sum_to_same (λ i. gate (cnt i) (bit (test (uses same (key i) es) (nat_abs (signed_sum same (key i) es)))))
      (λ i. gate (cnt i) (bit (test (cnt i) (sum_size (cnt i) (up i))))) n
      (λ i l. row (λ a b. bit (test a b)) i l (cnt i) refl)
      ∙ m.sums (λ k. bit (test (uses same k es) (nat_abs (signed_sum same k es))))

  pub rows_largest : max_to (λ i. gate (cnt i) (sum_size (cnt i) (up i))) n ≡ largest_sum same es
  unfolding largest_sum
  rows_largest =
      max_to_same (λ i. gate (cnt i) (nat_abs (signed_sum same (key i) es))) (λ i. gate (cnt i) (sum_size (cnt i) (up i))) n
      (λ i l. row (λ a b. b) i l (cnt i) refl)
      ∙ maxes same n key cnt up es m (λ k. nat_abs (signed_sum same k es))
