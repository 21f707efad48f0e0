-- `edges::gather` meets its contract: turn by turn the table means the uses of the triangles so far, by the laws of `Gathering`. Assumes
-- nothing.
use mathlib.Core.Path.{◌≡◌, refl, ◌∙◌}
use Prim.Native.Nat.{◌+◌, ◌*◌}
use native.Mathlib.Omega.{arith}
use Rattle.ids.specs.Triangles.{triangle}
use Rattle.edges.proofs.Gathering.{gathering_none, gathering_next, gathering_last}
use Rattle.edges.proofs.gather.Goals as goal

pub loop-t-init : goal.loop-t-init
loop-t-init g c = (refl, gathering_none c.requires)

pub loop-t-preserved : goal.loop-t-preserved
unfolding triangle
loop-t-preserved g c =
    let l = c.loop-t in
    let on : 3 * (l.t + 1) ≡ 3 * l.t + 3 = omega arith in
    (c.triangle.auto.work ∙ l.invariant.0, rw on (gathering_next l.invariant.1 (omega arith) (rw c.of.ensures at c.triangle.ensures)))

pub returns : goal.returns
returns g c = gathering_last c.loop-t.invariant.1 (omega arith)
