-- How many rows are in use, whatever they hold: none in an empty table; where they are fewer than all, some row is free; a row that is
-- written makes at most one more. Assumes nothing.
use mathlib.Core.Path.{◌≡◌}
use mathlib.Core.Logic.{◌≢◌}
use Prim.Native.Nat.{ℕ, ◌+◌, ◌-◌, ◌≤◌, ◌<◌}
use native.Mathlib.Omega.{arith}
use native.Mathlib.Decide.{dec_lt}
use borrow.Author.Tests.{lt-ltb, le-ltb}
use lib.Dec.{ltb}
use Rattle.ids.specs.Uses.{bit}
use Rattle.table.specs.inner.Rows.{sum_to, Free}
use Rattle.table.proofs.Sums.{sum_to_more}
use Rattle.table.proofs.Search.{has_free}
use Rattle.table.proofs.Probe.{sum_to_none}

abbrev pub is_used : (ℕ → ℕ) → ℕ → ℕ
is_used mark r = bit (ltb 0 (mark r))

used_is : (mark : ℕ → ℕ) (r : ℕ) → 0 < mark r → is_used mark r ≡ 1
unfolding bit
used_is mark r l = rw (lt-ltb 0 (mark r) l)

unused_is : (mark : ℕ → ℕ) (r : ℕ) → mark r ≡ 0 → is_used mark r ≡ 0
unfolding bit
unused_is mark r e = rw (le-ltb 0 (mark r) (omega arith))

used_le : (mark : ℕ → ℕ) (r : ℕ) → is_used mark r ≤ 1
used_le mark r = elim (dec_lt 0 (mark r)) [ yes l ↦ omega (arith, used_is mark r l) | no l ↦ omega (arith, unused_is mark r (omega arith)) ]

pub used_none : (mark : ℕ → ℕ) (n : ℕ) → ((r : ℕ) → r < n → mark r ≡ 0) → sum_to (is_used mark) n ≡ 0
used_none mark n z = sum_to_none (is_used mark) n (λ r l. unused_is mark r (z r l))

pub used_few : (mark : ℕ → ℕ) (n : ℕ) → sum_to (is_used mark) n < n → Free n mark
used_few mark n l =
    let w = has_free (is_used mark) n l in
    (w.0, w.1, elim (dec_lt 0 (mark w.0)) [ yes u ↦ absurd (omega (arith, w.2, used_is mark w.0 u)) | no u ↦ omega arith ])

pub used_more : (mark mark' : ℕ → ℕ) (n r : ℕ) → r < n → ((i : ℕ) → i < n → i ≢ r → mark' i ≡ mark i) → 0 < mark' r
    → sum_to (is_used mark') n ≤ sum_to (is_used mark) n + 1
used_more mark mark' n r l off at =
    omega (
      arith,
      used_le mark r,
      sum_to_more (is_used mark) (is_used mark') n r (1 - is_used mark r) l (λ i b ne. rw (off i b ne))
          (omega (arith, used_le mark r, used_is mark' r at)),
    )
