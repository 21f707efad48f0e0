-- The largest over the rows is the largest over the keys: it follows from the sums. Assumes nothing.
use mathlib.Core.Path.{◌≡◌, refl, sym, ◌∙◌}
use mathlib.Core.Bool.{Bool}
use mathlib.Core.List.{List, [], ◌∷◌}
use Prim.Native.Nat.{ℕ, zero, suc, ◌+◌, ◌≤◌, ◌<◌, max}
use native.Mathlib.Omega.{arith}
use native.Mathlib.Numerals.{add-one}
use native.Mathlib.Decide.{dec_le}
use borrow.Author.Tests.{lt-ltb, le-ltb}
use lib.Dec.{ltb}
use Rattle.ids.specs.Uses.{Use, keys, sum_by, max_by, bit}
use Rattle.table.specs.inner.Rows.{sum_to}
use Rattle.table.specs.inner.Table.{max_to, gate, Rows}
use Rattle.table.proofs.Sums.{sum_to_same}

pub max_to_next : (f : ℕ → ℕ) (n : ℕ) → max_to f (n + 1) ≡ max (max_to f n) (f n)
unfolding max_to
max_to_next f n = rw add-one

pub max_to_same : (f g : ℕ → ℕ) (n : ℕ) → ((i : ℕ) → i < n → g i ≡ f i) → max_to g n ≡ max_to f n
unfolding max_to
max_to_same f g zero h = refl
max_to_same f g (suc n) h = omega (arith, max_to_same f g n (λ i l. h i (omega arith)), h n (omega arith))

over_0 : (m x : ℕ) → x ≤ m → bit (ltb m x) ≡ 0
unfolding bit
over_0 m x l = rw (le-ltb m x l)

over_1 : (m x : ℕ) → bit (ltb m x) ≡ 0 → x ≤ m
unfolding bit
over_1 m x e = elim (dec_le x m) [ yes l ↦ l | no l ↦ (let z : bit (ltb m x) ≡ 1 = rw (lt-ltb m x (omega arith)) in absurd (omega arith)) ]

module _ (m : ℕ) where
  rows_0 : (f : ℕ → ℕ) (n : ℕ) → max_to f n ≤ m → sum_to (λ i. bit (ltb m (f i))) n ≡ 0
  unfolding max_to sum_to
  rows_0 f zero l = refl
  rows_0 f (suc n) l = omega (arith, rows_0 f n (omega arith), over_0 m (f n) (omega arith))

  rows_1 : (f : ℕ → ℕ) (n : ℕ) → sum_to (λ i. bit (ltb m (f i))) n ≡ 0 → max_to f n ≤ m
  unfolding max_to sum_to
  rows_1 f zero e = omega arith
  rows_1 f (suc n) e = omega (arith, rows_1 f n (omega arith), over_1 m (f n) (omega arith))

  module _ {K : Type 0} (Q : K → ℕ) where
    keys_0 : (ks : List K) → max_by Q ks ≤ m → sum_by (λ k. bit (ltb m (Q k))) ks ≡ 0
    unfolding max_by sum_by
    keys_0 [] l = refl
    keys_0 (k ∷ ks) l = omega (arith, keys_0 ks (omega arith), over_0 m (Q k) (omega arith))

    keys_1 : (ks : List K) → sum_by (λ k. bit (ltb m (Q k))) ks ≡ 0 → max_by Q ks ≤ m
    unfolding max_by sum_by
    keys_1 [] e = omega arith
    keys_1 (k ∷ ks) e = omega (arith, keys_1 ks (omega arith), over_1 m (Q k) (omega arith))

gate_over : (m c x : ℕ) → bit (ltb m (gate c x)) ≡ gate c (bit (ltb m x))
unfolding gate
gate_over m zero x = over_0 m 0 (omega arith)
gate_over m (suc c) x = refl

module _ {K : Type 0} (same : K → K → Bool) (n : ℕ) (key : ℕ → K) (cnt up : ℕ → ℕ) (es : List (Use K))
    (t : Rows same n key cnt up es) (Q : K → ℕ) where
  row : ℕ → ℕ
  row i = gate (cnt i) (Q (key i))

  same_sums : (m : ℕ) → sum_to (λ i. bit (ltb m (row i))) n ≡ sum_by (λ k. bit (ltb m (Q k))) (keys same es)
  unfolding row
  same_sums m =
      sum_to_same (λ i. gate (cnt i) (bit (ltb m (Q (key i))))) (λ i. bit (ltb m (row i))) n (λ i l. gate_over m (cnt i) (Q (key i)))
      ∙ t.sums (λ k. bit (ltb m (Q k)))

  pub maxes : max_to (λ i. gate (cnt i) (Q (key i))) n ≡ max_by Q (keys same es)
  unfolding row
  maxes =
      let a : ℕ = max_to row n in
      let b : ℕ = max_by Q (keys same es) in
      omega (
        arith,
        rows_1 b row n (same_sums b ∙ keys_0 b Q (keys same es) (omega arith)),
        keys_1 a Q (keys same es) (sym (same_sums a) ∙ rows_0 a row n (omega arith)),
      )
