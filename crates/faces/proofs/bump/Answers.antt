-- `faces::bump` meets its contract: a row with few uses holds one more, so the word does not wrap. Assumes nothing.
use mathlib.Core.Bool.{true}
use Prim.Native.Nat.{◌<◌}
use native.Mathlib.Omega.{arith}
use Rattle.table.proofs.Counts.{few_roomy, more_fits}
use Rattle.faces.specs.inner.Rows.{face_uses}
use Rattle.faces.proofs.bump.Goals as goal

pub overflow_add-word-2 : goal.overflow_add-word-2
overflow_add-word-2 c =
    let few : face_uses c.args.work.now c.args.r < 65535 = omega (arith, c.requires.4) in
    omega (arith, more_fits _ (few_roomy _ few) true)
