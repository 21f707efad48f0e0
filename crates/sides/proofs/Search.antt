-- A search of the slots that gives up at a limit: where it starts, one turn of it, and its end. Assumes nothing.
use mathlib.Core.Path.{◌≡◌}
use mathlib.Core.Logic.{◌≢◌}
use Prim.Native.Nat.{ℕ, ◌+◌, ◌*◌, ◌%◌, ◌≤◌, ◌<◌}
use native.Mathlib.Omega.{arith}
use Rattle.table.specs.inner.Rows.{next_row, dist}
use Rattle.table.proofs.Search.{dist_here, home_below}
use Rattle.table.proofs.Turn.{Looking, Onward, look_first, turn_ends, turn_through, turn_next}
use Rattle.ids.specs.EdgeChain.{Edge}
use Rattle.sides.specs.inner.Sides.{side_home, Sought}

pub home_in_lem : (low high n : ℕ) (e : Edge) → 0 < n → side_home low high n e < n
unfolding side_home
home_in_lem low high n e some =
    home_below n (((e.low * low) % 4294967296 + (e.high * high) % 4294967296) % 4294967296) some (omega arith)

-- a search of `limit` rows after so many turns: it stands at row r, or is over
pub record Seeking {K : Type 0} (n limit at : ℕ) (key : ℕ → K) (mark : ℕ → ℕ) (k : K) (r turns : ℕ) : Type 0 where
  pub looking : turns < limit → Looking n at key mark k r
  pub rows : turns < limit → dist n at r ≡ turns
  pub over : limit ≤ turns → Sought n limit at key mark k n

pub seek_first : {K : Type 0} {n limit at : ℕ} {key : ℕ → K} {mark : ℕ → ℕ} {k : K} → at < n → 0 < limit
    → Seeking n limit at key mark k at 0
seek_first {n = n} {at = at} home some =
    record { looking = λ l. look_first home; rows = λ l. omega (arith, dist_here n at home); over = λ l. absurd (omega arith) }

module _ {K : Type 0} {n limit at : ℕ} {key : ℕ → K} {mark : ℕ → ℕ} {k : K} {r turns : ℕ} (s : Seeking n limit at key mark k r turns)
    (l : turns < limit) where
  pub seek_within : r < n
  seek_within = (s.looking l).within

  pub seek_ends : (0 < mark r → key r ≡ k) → Sought n limit at key mark k r
  seek_ends h =
      let inside = seek_within in
      record {
        within = omega arith;
        found = λ m. turn_ends (s.looking l) h;
        near = λ m. omega (arith, s.rows l);
        none = λ q. absurd (omega arith);
      }

  -- row r is another key's
  pub seek_on : limit ≤ n → 0 < mark r → key r ≢ k → Seeking n limit at key mark k (next_row n r) (turns + 1)
  seek_on room used other =
      record {
        looking = λ more. (on more).next;
        rows = λ more. omega (arith, (on more).further, s.rows l);
        over = λ last. record {
          within = omega arith;
          found = λ m. absurd (omega arith);
          near = λ m. absurd (omega arith);
          none = λ q j lj d. turn_through (s.looking l) used other j lj (omega (arith, s.rows l));
        };
      }
    where
      on : turns + 1 < limit → Onward n at key mark k r
      on more = turn_next (s.looking l) used other (omega (arith, s.rows l))
