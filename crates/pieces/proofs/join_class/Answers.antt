-- `pieces::join_class` meets its contract. The sides of the triangles before t are settled; each pass gets ahead. Assumes nothing.
use mathlib.Core.Path.{◌≡◌, refl}
use Prim.Native.Nat.{◌*◌}
use native.Mathlib.Omega.{arith}
use lib.ListN.{length}
use Rattle.sides.proofs.Joins.{joinable_then}
use Rattle.pieces.proofs.Joining.{settles_none, settles_then}
use Rattle.pieces.proofs.join_class.Goals as goal

pub loop-t-init : goal.loop-t-init
loop-t-init c = (refl, omega arith, settles_none _ _ _ 0)

pub advance-t-requires : goal.advance-t-requires
advance-t-requires c =
    let l = c.loop-t in
    (joinable_then c.requires l.invariant.0 l.invariant.2, omega arith)

pub loop-t-smaller : goal.loop-t-smaller
loop-t-smaller c =
    let l = c.loop-t in
    omega (arith, l.invariant.0, c.advance-t.ensures.0, c.advance-t.ensures.1)

pub loop-t-preserved : goal.loop-t-preserved
loop-t-preserved c =
    let l = c.loop-t in
    let told = rw l.invariant.0 at c.advance-t.ensures in
    (omega (arith, c.advance-t.auto, l.invariant.0), told.1, settles_then _ _ _ 0 (3 * l.t) (3 * c.advance-t.result) l.invariant.2 told.2)

pub returns : goal.returns
returns c =
    let l = c.loop-t in
    let e : l.t ≡ length c.args.work.now = omega (arith, l.invariant.0, l.invariant.1) in
    rw e at l.invariant.2
