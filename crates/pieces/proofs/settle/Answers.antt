-- `pieces::settle` meets its contract. Triangle t is tied to those behind it below j. Assumes nothing.
use mathlib.Core.Path.{◌≡◌}
use native.Mathlib.Omega.{arith}
use lib.ListN.{length}
use Rattle.sides.proofs.Joins.{more_none, joinable_then}
use Rattle.pieces.proofs.Joining.{tied_then}
use Rattle.pieces.proofs.settle.Goals as goal

pub loop-j-init : goal.loop-j-init
loop-j-init c = λ f g. more_none g (λ j la lb. absurd (omega arith))

pub tie-requires : goal.tie-requires
tie-requires c =
    let l = c.loop-j in (
      joinable_then c.requires.0 l.auto.work l.invariant,
      omega (arith, c.requires.1, l.auto.work),
      omega (arith, l.auto.work),
    )

pub loop-j-preserved : goal.loop-j-preserved
loop-j-preserved c =
    let l = c.loop-j in tied_then l.invariant (rw l.auto.work at c.tie.ensures)

pub returns : goal.returns
returns c =
    let l = c.loop-j in
    let end : l.j ≡ length c.args.work.now = omega (arith, c.requires.1) in
    rw end at l.invariant
