-- One turn of a search, whatever the rows hold: row r is free or holds the key, and the search ends there; or it is another key's, and
-- the search goes on at the next row, with fewer rows to come. Assumes nothing.
use mathlib.Core.Path.{◌≡◌}
use mathlib.Core.Logic.{◌≢◌}
use Prim.Native.Nat.{ℕ, ◌+◌, ◌-◌, ◌≤◌, ◌<◌}
use native.Mathlib.Omega.{arith}
use Rattle.table.specs.inner.Rows.{next_row, dist, Passed, Found, Free}
use Rattle.table.proofs.Search.{dist_here, dist_below, next_below, through, turn, goes_on}

-- a search for k from row h on stands at row r: each row that it passed is used by another key
pub record Looking {K : Type 0} (n h : ℕ) (key : ℕ → K) (mark : ℕ → ℕ) (k : K) (r : ℕ) : Type 0 where
  pub home : h < n
  pub within : r < n
  pub passed : Passed n h key mark k r

-- it goes on at the next row
pub record Onward {K : Type 0} (n h : ℕ) (key : ℕ → K) (mark : ℕ → ℕ) (k : K) (r : ℕ) : Type 0 where
  pub next : Looking n h key mark k (next_row n r)
  pub further : dist n h (next_row n r) ≡ dist n h r + 1
  pub less : n - dist n h (next_row n r) < n - dist n h r

pub look_first : {K : Type 0} {n h : ℕ} {key : ℕ → K} {mark : ℕ → ℕ} {k : K} → h < n → Looking n h key mark k h
look_first {n = n} {h = h} l = record { home = l; within = l; passed = λ j b d. absurd (omega (arith, dist_here n h l)) }

module _ {K : Type 0} {n h : ℕ} {key : ℕ → K} {mark : ℕ → ℕ} {k : K} {r : ℕ} (at : Looking n h key mark k r) where
  pub turn_ends : (0 < mark r → key r ≡ k) → Found n h key mark k r
  turn_ends e = record { within = at.within; holds = e; passed = at.passed }

  -- row r is another key's
  module _ (used : 0 < mark r) (other : key r ≢ k) where
    pub turn_through : (j : ℕ) → j < n → dist n h j ≤ dist n h r → (0 < mark j) × (key j ≢ k)
    turn_through = through n h at.home key mark k r at.within at.passed used other

    onward : (dist n h (next_row n r) ≡ dist n h r + 1) × Passed n h key mark k (next_row n r) → Onward n h key mark k r
    onward w = record {
      next = record { home = at.home; within = next_below n h at.home r at.within; passed = w.1 };
      further = w.0;
      less = omega (arith, w.0, dist_below n h at.home r at.within);
    }

    -- short of a whole round, or where some row is free
    pub turn_next : dist n h r + 1 < n → Onward n h key mark k r
    turn_next short = onward (turn n h at.home key mark k r at.within at.passed used other short)

    pub turn_on : Free n mark → Onward n h key mark k r
    turn_on free = onward (goes_on n h at.home key mark k r at.within at.passed used other free)
