-- Rows of a table in lent words, whatever they hold. Row i has a key, and a mark that is 0 where the row is free. What a search leans on,
-- and what it finds.
use Rattle.std.specs.Prelude.{◌≡◌, ◌≢◌, cond, ℕ, zero, suc, ◌+◌, ◌-◌, ◌*◌, ◌/◌, ◌<◌, eqb, leb}

-- where a search starts in n rows, by a hash below 2^32: spread over the rows with no division by n
unfoldable pub home_row : ℕ → ℕ → ℕ
home_row n hash = hash * n / 4294967296

-- the row after r, round
unfoldable pub next_row : ℕ → ℕ → ℕ
next_row n r = cond (eqb (r + 1) n) 0 (r + 1)

-- how many rows a search that starts at row h of n has passed when it is at row x: x - h, or x + n - h where it has wrapped
unfoldable pub dist : ℕ → ℕ → ℕ → ℕ
dist n h x = cond (leb h x) (x - h) (x + n - h)

-- f 0 + .. + f (n - 1)
unfoldable pub sum_to : (ℕ → ℕ) → ℕ → ℕ
sum_to f zero = 0
sum_to f (suc n) = sum_to f n + f n

-- each row that a search from h has passed when it is at row r is used, by another key than k
abbrev pub Passed : {K : Type 0} → ℕ → ℕ → (ℕ → K) → (ℕ → ℕ) → K → ℕ → Type 0
Passed n h key mark k r = (j : ℕ) → j < n → dist n h j < dist n h r → (0 < mark j) × (key j ≢ k)

-- what a search for k finds: row r is free or holds k, and each row that it passed on the way has another key
pub record Found {K : Type 0} (n : ℕ) (home : ℕ) (key : ℕ → K) (mark : ℕ → ℕ) (k : K) (r : ℕ) : Type 0 where
  pub within : r < n
  pub holds : 0 < mark r → key r ≡ k
  pub passed : Passed n home key mark k r

-- some row is free
abbrev pub Free : ℕ → (ℕ → ℕ) → Type 0
Free n mark = (i : ℕ) × (i < n) × (mark i ≡ 0)

-- no two rows in use have one key, and from a key's home to its row each row is in use: what a search leans on, whatever else a table keeps
pub record Spread {K : Type 0} (n : ℕ) (home : K → ℕ) (key : ℕ → K) (mark : ℕ → ℕ) : Type 0 where
  pub one : (i j : ℕ) → i < n → 0 < mark i → j < n → 0 < mark j → key i ≡ key j → i ≡ j
  pub reach : (i j : ℕ) → i < n → 0 < mark i → j < n → dist n (home (key i)) j < dist n (home (key i)) i → 0 < mark j
