-- The areas that the program lends suffice for every file, so that it never prints refusal 1 or 3.
use mathlib.Core.Path.{◌≡◌}
use Prim.Native.Nat.{ℕ, ◌+◌, ◌*◌, ◌/◌, ◌≤◌}
use mathlib.Core.Bool.{false, ◌||◌}
use native.Mathlib.Omega.{arith}
use borrow.Author.Tests.{le-ltb}
use lib.Dec.{ltb}
use lib.ListN.{length}
use Rattle.sums.specs.Editions.{edition_known}
use Rattle.refusals.specs.Refusals.{areas_short, check_of}
use Rattle.program.specs.Promises.{check_file, AreasSuffice}
use Rattle.ids.specs.Lent.{most_entries}

module _ (f i : ℕ) (hf : f ≤ 1536) (hi : i ≤ 1536) where
  not_many : (ltb most_entries f || ltb most_entries i) ≡ false
  not_many = rw (le-ltb most_entries f (omega arith), le-ltb most_entries i (omega arith))

  not_short : areas_short f i 13824 65536 2048 ≡ false
  not_short = rw (le-ltb 13824 (5 * i + 4 * (i / 3) + 8 * (f / 3)) (omega arith), le-ltb 2048 (4 * (i / 3)) (omega arith))

pub areas_suffice : AreasSuffice
unfolding check_of check_file edition_known
areas_suffice vs ids u hf hi = rw (not_many (length vs) (length ids) hf hi, not_short (length vs) (length ids) hf hi)
