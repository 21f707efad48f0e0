-- What the loop keeps.
use mathlib.Core.Path.{◌≡◌}
use Prim.Native.Nat.{◌≤◌}
use Rattle.ids.specs.EdgeChain.{present, unbalanced, crowded}
use Rattle.table.specs.inner.Rows.{sum_to}
use Rattle.edges.specs.inner.Tests.{row_bit}
use Rattle.edges.proofs.survey_rows.Given as goal

abbrev pub invariant-loop-i : goal.invariant-loop-i
invariant-loop-i l =
    let s = l.survey in
    (s.present ≡ sum_to (row_bit present l.work) l.i) × (s.unbalanced ≡ sum_to (row_bit unbalanced l.work) l.i)
    × (s.crowded ≡ sum_to (row_bit crowded l.work) l.i) × (s.present ≤ l.i) × (s.unbalanced ≤ l.i) × (s.crowded ≤ l.i)
