-- What an edge, and a row, adds to the count of a test.
use Rattle.std.specs.Prelude.{ℕ, Bool, List}
use Rattle.ids.specs.Uses.{bit}
use Rattle.table.specs.inner.Counts.{sum_size}
use Rattle.table.specs.inner.Table.{gate}
use Rattle.steps.specs.inner.Rows.{edge_uses, edge_ups}

-- of an edge with n uses, u of them upwards: 1 if it is used and passes the test
unfoldable pub use_bit : (ℕ → ℕ → Bool) → ℕ → ℕ → ℕ
use_bit test n u = gate n (bit (test n (sum_size n u)))

abbrev pub row_bit : (ℕ → ℕ → Bool) → List ℕ → ℕ → ℕ
row_bit test t i = use_bit test (edge_uses t i) (edge_ups t i)
