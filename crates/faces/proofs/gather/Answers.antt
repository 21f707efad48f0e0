-- `faces::gather` meets its contract: turn by turn the table means the uses of the first t triangles, by the laws of `Summing`. Assumes
-- nothing.
use mathlib.Core.Path.{refl, ◌∙◌}
use native.Mathlib.Omega.{arith}
use Rattle.faces.proofs.Summing.{summing_none, summing_fits, summing_next, summing_last}
use Rattle.faces.proofs.gather.Goals as goal

pub loop-t-init : goal.loop-t-init
loop-t-init c = (refl, summing_none c.requires)

pub triangle-requires : goal.triangle-requires
triangle-requires c = summing_fits c.loop-t.invariant.1 (omega arith) c.requires c.loop-t.invariant.0

pub loop-t-preserved : goal.loop-t-preserved
loop-t-preserved c =
    (c.triangle.auto.work ∙ c.loop-t.invariant.0, summing_next c.loop-t.invariant.1 (omega arith) c.triangle.ensures)

pub returns : goal.returns
returns c = summing_last c.loop-t.invariant.1 (omega arith)
