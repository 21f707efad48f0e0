-- What the table's rows say of the uses: a table of zeros means none, and what its rows count is what the edges count. Assumes nothing.
use mathlib.Core.Path.{◌≡◌}
use mathlib.Core.Bool.{Bool}
use mathlib.Core.List.{List, []}
use Prim.Native.Nat.{ℕ, ◌+◌, ◌*◌, ◌≤◌, ◌<◌}
use native.Mathlib.Omega.{arith}
use mir.Val.{bool_byte}
use lib.ListN.{replicate, get_or-replicate}
use Rattle.ids.specs.Uses.{Use, bit}
use Rattle.ids.proofs.Bits.{byte_bit, byte_small}
use Rattle.ids.specs.EdgeChain.{Edge, same_edge, edges_that}
use Rattle.table.specs.inner.Rows.{sum_to}
use Rattle.table.proofs.Counts.{none_used, none_up}
use Rattle.table.proofs.Probe.{empty}
use Rattle.table.proofs.Sums.{sum_to_next}
use Rattle.table.proofs.Tally.{rows_that}
use Rattle.steps.specs.inner.Rows.{EdgeTable, edge_home, edge_at, edge_word, edge_uses, edge_ups}
use Rattle.edges.specs.inner.Tests.{use_bit, row_bit}

-- rows whose words are 0 mean no uses
pub empty_table : (n : ℕ) (t : List ℕ) → ((i : ℕ) → i < n → edge_word t i ≡ 0) → EdgeTable n t []
empty_table n t word = empty same_edge n (edge_home n) _ _ _ (λ i b. (none_used _ (word i b), none_up _ (word i b)))

pub zero_table : (n m : ℕ) → 3 * n ≤ m → EdgeTable n (replicate m 0) []
zero_table n m l = empty_table n (replicate m 0) (λ i b. get_or-replicate m (3 * i + 2) 0 0 (omega arith))

-- the rows' count is the edges'
pub table_tally : (n : ℕ) (t : List ℕ) (es : List (Use Edge)) (test : ℕ → ℕ → Bool) → EdgeTable n t es
    → sum_to (row_bit test t) n ≡ edges_that test es
unfolding use_bit
table_tally n t es test m = rows_that same_edge n (edge_at t) (edge_uses t) (edge_ups t) es m.rows test

-- a turn of a loop that counts the rows that pass: row i has n uses, u of them upwards, and b says whether they pass
pub counted_next : (test : ℕ → ℕ → Bool) (t : List ℕ) (i total n u : ℕ) (b : Bool) → (u ≡ edge_ups t i) × (n ≡ edge_uses t i)
    → bit b ≡ use_bit test n u → total ≡ sum_to (row_bit test t) i → total ≤ i
    → (total + bool_byte b ≡ sum_to (row_bit test t) (i + 1)) × (total + bool_byte b ≤ i + 1)
counted_next test t i total n u b row passes sum few =
    let here : bit b ≡ row_bit test t i = rw (row.0, row.1) at passes in
    (omega (arith, sum, here, byte_bit b, sum_to_next (row_bit test t) i), omega (arith, byte_small b))
