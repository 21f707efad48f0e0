-- Signed uses of keys. A use is of a key, in one of two directions; a key is an undirected edge or a face. What a list of uses says of a
-- key, and which keys it has.
use Rattle.std.specs.Prelude.{ℕ, ◌+◌, max, Bool, true, false, cond, List, [], ◌∷◌, ltb, ℤ, pos, nat_abs}
use Rattle.std.proofs.Math.IntN.{suc_ℤ, pred_ℤ}

-- 1 for a test that holds, 0 for one that does not
unfoldable pub bit : Bool → ℕ
bit true = 1
bit false = 0

-- one use of a key: `up` in the direction that counts 1, else in the one that counts -1
pub record Use (K : Type 0) : Type 0 where
  pub key : K
  pub up : Bool

-- the sum of f over a list
unfoldable pub sum_by : {K : Type 0} → (K → ℕ) → List K → ℕ
sum_by f [] = 0
sum_by f (k ∷ ks) = f k + sum_by f ks

-- the largest of f over a list, 0 for none
unfoldable pub max_by : {K : Type 0} → (K → ℕ) → List K → ℕ
max_by f [] = 0
max_by f (k ∷ ks) = max (f k) (max_by f ks)

-- a sum with one use more: of another key, of this one upwards, of this one downwards
unfoldable pub counting : Bool → Bool → ℤ → ℤ
counting false up z = z
counting true true z = suc_ℤ z
counting true false z = pred_ℤ z

module _ {K : Type 0} (same : K → K → Bool) where
  -- how often k stands in a list
  abbrev pub times : K → List K → ℕ
  times k ks = sum_by (λ j. bit (same k j)) ks

  -- how often k is used
  unfoldable pub uses : K → List (Use K) → ℕ
  uses k [] = 0
  uses k (e ∷ es) = bit (same k e.key) + uses k es

  -- k's signed sum: 1 for each use upwards, -1 for each other
  unfoldable pub signed_sum : K → List (Use K) → ℤ
  signed_sum k [] = pos 0
  signed_sum k (e ∷ es) = counting (same k e.key) e.up (signed_sum k es)

  -- the keys used, each once
  unfoldable pub keys : List (Use K) → List K
  keys [] = []
  keys (e ∷ es) = cond (ltb 0 (uses e.key es)) (keys es) (e.key ∷ keys es)

  -- how many keys pass a test on their uses and the magnitude of their signed sum
  unfoldable pub keys_that : (ℕ → ℕ → Bool) → List (Use K) → ℕ
  keys_that test es = sum_by (λ k. bit (test (uses k es) (nat_abs (signed_sum k es)))) (keys es)

  -- the largest magnitude of a key's signed sum
  unfoldable pub largest_sum : List (Use K) → ℕ
  largest_sum es = max_by (λ k. nat_abs (signed_sum k es)) (keys es)
