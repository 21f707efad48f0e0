-- The part that is lent, cleared, is an empty table of edges with the rows that the ids need. Assumes nothing.
use mathlib.Core.Path.{◌≡◌}
use mathlib.Core.List.{List}
use Prim.Native.Nat.{ℕ, ◌*◌, ◌/◌}
use native.Mathlib.Omega.{arith}
use lib.ListN.{length}
use Rattle.ids.specs.Lent.{cleared}
use Rattle.ids.proofs.Lent.{cleared_all}
use Rattle.table.specs.inner.Words.{Lends}
use Rattle.edges.specs.inner.Gather.{EdgesToCome}
use Rattle.edges.proofs.Tally as edge-tables

module _ (ids t u : List ℕ) (long : length u ≡ length t) where
  pub emptied_edges : (n : ℕ) → Lends (4 * length ids) ids t → n ≡ length ids * 4 / 3 → u ≡ cleared (4 * length ids) t → EdgesToCome ids n u
  emptied_edges n lent rows is =
      let m : ℕ = 4 * length ids in
      record {
        few = lent.few;
        rows = omega arith;
        space = record { most = omega (arith, lent.few); fits = omega (arith, lent.long) };
        empty = rw (is, cleared_all m t lent.long) (edge-tables.zero_table n m (omega arith));
      }
