-- What the loop keeps: the first j rows are scaled.
use Rattle.std.proofs.Common.{◌≡◌, length}
use Rattle.rows.specs.Rows.{rows_of}
use Rattle.rows.proofs.Areas.{scaled_to}
use Rattle.rows.proofs.scale.Given as goal

abbrev pub invariant-loop-j : goal.invariant-loop-j
invariant-loop-j l = (length l.rows ≡ length l.initial.rows) × (rows_of l.rows ≡ scaled_to l.by l.j (rows_of l.initial.rows))
