-- What a table of rows means: it holds the keys of a list of uses, each in one row, with its uses and its uses upwards. A row with no
-- uses is free.
use Rattle.std.specs.Prelude.{◌≡◌, ℕ, zero, suc, ◌+◌, ◌<◌, max, Bool, ◌&&◌, List, [], ◌∷◌, length}
use Rattle.ids.specs.Uses.{Use, uses, keys, sum_by, bit}
use Rattle.table.specs.inner.Rows.{Spread, sum_to}

-- the largest of f 0 .. f (n - 1), 0 for none
unfoldable pub max_to : (ℕ → ℕ) → ℕ → ℕ
max_to f zero = 0
max_to f (suc n) = max (max_to f n) (f n)

-- x, if the row has uses
unfoldable pub gate : ℕ → ℕ → ℕ
gate zero x = 0
gate (suc n) x = x

module _ {K : Type 0} where
  -- how often k is used upwards
  unfoldable pub ups : (same : K → K → Bool) → K → List (Use K) → ℕ
  ups same k [] = 0
  ups same k (e ∷ es) = bit (same k e.key && e.up) + ups same k es

  -- the rows mean the uses es
  pub record Rows (same : K → K → Bool) (n : ℕ) (key : ℕ → K) (cnt up : ℕ → ℕ) (es : List (Use K)) : Type 0 where
    -- a used row has its key's uses, and its uses upwards
    pub counted : (i : ℕ) → i < n → 0 < cnt i → cnt i ≡ uses same (key i) es
    pub upped : (i : ℕ) → i < n → 0 < cnt i → up i ≡ ups same (key i) es
    pub blank : (i : ℕ) → i < n → cnt i ≡ 0 → up i ≡ 0
    -- each key used has a row
    pub has : (k : K) → 0 < uses same k es → (i : ℕ) × (i < n) × (0 < cnt i) × (key i ≡ k)
    -- the rows' uses are all the uses
    pub total : sum_to cnt n ≡ length es
    -- a sum over the used rows is one over the keys
    pub sums : (Q : K → ℕ) → sum_to (λ i. gate (cnt i) (Q (key i))) n ≡ sum_by Q (keys same es)

  -- and a search finds them
  pub record MeansUses (same : K → K → Bool) (n : ℕ) (home : K → ℕ) (key : ℕ → K) (cnt up : ℕ → ℕ) (es : List (Use K)) : Type 0 where
    pub rows : Rows same n key cnt up es
    pub spread : Spread n home key cnt
