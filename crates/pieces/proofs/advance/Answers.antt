-- `pieces::advance` meets its contract: a pass, or behind one that entered nothing the first triangle by itself. Assumes nothing.
use native.Mathlib.Omega.{arith}
use Rattle.sides.proofs.Joins.{joinable_then, more_then}
use Rattle.pieces.proofs.Joining.{settled_one}
use Rattle.pieces.proofs.advance.Goals as goal

pub settle-requires : goal.settle-requires
settle-requires c =
    let kept = c.pass-next.auto.work in (
      joinable_then c.requires.0 kept c.pass-next.ensures.2,
      omega (arith, c.requires.1, kept),
    )

pub returns : goal.returns
returns c =
    let kept = c.pass-next.auto.work in
    let one = rw kept at c.settle.ensures in (
      omega arith,
      omega (arith, c.requires.1),
      more_then c.pass-next.ensures.2 one (λ g h old keeps new. settled_one c.args.class c.requires.1 new),
    )
