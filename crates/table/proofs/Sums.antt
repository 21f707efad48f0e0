-- Sums over rows and over keys, and what one use more does to them. Assumes nothing.
use mathlib.Core.Path.{◌≡◌, refl, sym, ap, ◌∙◌}
use mathlib.Core.Logic.{◌≢◌}
use mathlib.Core.Bool.{Bool, true, false, cond, ◌&&◌, true≢false}
use mathlib.Core.List.{List, [], ◌∷◌, ◌++◌}
use Prim.Native.Nat.{ℕ, zero, suc, ◌+◌, ◌≤◌, ◌<◌}
use native.Mathlib.Omega.{arith}
use native.Mathlib.Nat.{add-zero, zero-add}
use native.Mathlib.Numerals.{add-one}
use native.Mathlib.Decide.{ℕ_discrete}
use lib.Dec.{ltb}
use lib.ListN.{length}
use borrow.Author.Tests.{lt-ltb}
use Rattle.ids.specs.Uses.{Use, uses, keys, sum_by, bit}
use Rattle.ids.proofs.Bits.{bit_most, bit_and}
use Rattle.table.specs.inner.Rows.{sum_to}
use Rattle.table.specs.inner.Table.{ups}

-- one term more
pub sum_to_next : (f : ℕ → ℕ) (n : ℕ) → sum_to f (n + 1) ≡ sum_to f n + f n
unfolding sum_to
sum_to_next f n = rw add-one

-- equal terms, equal sums
pub sum_to_same : (f g : ℕ → ℕ) (n : ℕ) → ((i : ℕ) → i < n → g i ≡ f i) → sum_to g n ≡ sum_to f n
unfolding sum_to
sum_to_same f g zero h = refl
sum_to_same f g (suc n) h = omega (arith, sum_to_same f g n (λ i l. h i (omega arith)), h n (omega arith))

-- a sum in which one term is d more is d more
pub sum_to_more : (f g : ℕ → ℕ) (n r d : ℕ) → r < n → ((i : ℕ) → i < n → i ≢ r → g i ≡ f i) → g r ≡ f r + d → sum_to g n ≡ sum_to f n + d
unfolding sum_to
sum_to_more f g zero r d l h e = omega arith
sum_to_more f g (suc n) r d l h e = go (λ m. sum_to_more f g n r d m (λ i b ne. h i (omega arith) ne) e) (ℕ_discrete n r)
  where
    go : (r < n → sum_to g n ≡ sum_to f n + d) → Dec (n ≡ r) → sum_to g n + g n ≡ sum_to f n + f n + d
    go ih (yes q) = omega (arith, sum_to_same f g n (λ i m. h i (omega arith) (omega arith)), e, ap f q, ap g q)
    go ih (no q) = omega (arith, ih (omega arith), h n (omega arith) q)

-- a sum of terms above 0 is at least as long
pub sum_to_pos : (f : ℕ → ℕ) (n : ℕ) → ((i : ℕ) → i < n → 0 < f i) → n ≤ sum_to f n
unfolding sum_to
sum_to_pos f zero h = omega arith
sum_to_pos f (suc n) h = omega (arith, sum_to_pos f n (λ i l. h i (omega arith)), h n (omega arith))

-- x, for a key that is not used yet
unfoldable pub new : ℕ → ℕ → ℕ
new zero x = x
new (suc n) x = 0

pub new_pos : (n x : ℕ) → 0 < n → new n x ≡ 0
unfolding new
new_pos zero x h = omega arith
new_pos (suc n) x h = refl

module _ {K : Type 0} (same : K → K → Bool) where
  -- one more use, at the end
  pub uses_more : (k : K) (es : List (Use K)) (e : Use K) → uses same k (es ++ e ∷ []) ≡ uses same k es + bit (same k e.key)
  unfolding uses
  uses_more k [] e = omega arith
  uses_more k (x ∷ es) e = omega (arith, uses_more k es e)

  pub ups_more : (k : K) (es : List (Use K)) (e : Use K) → ups same k (es ++ e ∷ []) ≡ ups same k es + bit (same k e.key && e.up)
  unfolding ups
  ups_more k [] e = omega arith
  ups_more k (x ∷ es) e = omega (arith, ups_more k es e)

  pub ups_le : (k : K) (es : List (Use K)) → ups same k es ≤ uses same k es
  unfolding ups uses
  ups_le k [] = omega arith
  ups_le k (x ∷ es) = omega (arith, ups_le k es, bit_and (same k x.key) x.up)

  pub uses_le : (k : K) (es : List (Use K)) → uses same k es ≤ length es
  unfolding uses
  uses_le k [] = omega arith
  uses_le k (x ∷ es) = omega (arith, uses_le k es, bit_most (same k x.key))

  module _ (same-eq : (a b : K) → same a b ≡ true → a ≡ b) (same_refl : (a : K) → same a a ≡ true) (Q : K → ℕ) where
    sum_cond : (m : ℕ) (a : K) (ks : List K) → sum_by Q (cond (ltb 0 m) ks (a ∷ ks)) ≡ new m (Q a) + sum_by Q ks
    unfolding new sum_by
    sum_cond zero a ks = refl
    sum_cond (suc m) a ks = rw (lt-ltb 0 (suc m) (omega arith)) (omega arith)

    tail : (a k : K) (A U S : ℕ) (b c : Bool) → same a k ≡ b → same k a ≡ c → (a ≡ k → A ≡ U)
        → new (A + bit b) (Q a) + (S + new U (Q k)) ≡ new A (Q a) + S + new (bit c + U) (Q k)
    unfolding bit
    tail a k A U S true true p q h =
        let e : a ≡ k = same-eq a k p in
        let f : A ≡ U = h e in
        rw (f, e) (omega (arith, new_pos (U + 1) (Q k) (omega arith), new_pos (1 + U) (Q k) (omega arith)))
    tail a k A U S true false p q h =
        let e : a ≡ k = same-eq a k p in
        let z : true ≡ false = sym (same_refl k) ∙ rw e at q in absurd (true≢false z)
    tail a k A U S false true p q h =
        let e : k ≡ a = same-eq k a q in
        let z : true ≡ false = sym (same_refl a) ∙ rw e at p in absurd (true≢false z)
    tail a k A U S false false p q h = rw (add-zero, zero-add) (omega arith)

    -- the keys' sum with one use more at the end: more by the key's term if the key is new
    pub keys_more : (es : List (Use K)) (e : Use K)
        → sum_by Q (keys same (es ++ e ∷ [])) ≡ sum_by Q (keys same es) + new (uses same e.key es) (Q e.key)
    unfolding keys sum_by uses new
    keys_more [] e = omega arith
    keys_more (x ∷ es) e =
        let a : K = x.key in
        let k : K = e.key in
        let more : List (Use K) = es ++ e ∷ [] in
        rw (sum_cond (uses same a more) a (keys same more), sum_cond (uses same a es) a (keys same es), uses_more a es e, keys_more es e)
        (tail a k (uses same a es) (uses same k es) (sum_by Q (keys same es)) (same a k) (same k a) refl refl
        (ap (λ (z : K). uses same z es)))
