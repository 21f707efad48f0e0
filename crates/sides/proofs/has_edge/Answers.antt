-- `sides::has_edge` meets its contract. Assumes nothing.
use native.Mathlib.Omega.{arith}
use Rattle.ids.specs.Pieces.{has_edge}
use Rattle.ids.proofs.Shared.{side}
use Rattle.sides.proofs.Sides.{side_at, side_first}
use Rattle.sides.proofs.has_edge.Goals as goal

pub returns : goal.returns
unfolding has_edge side
returns c =
    let ids = c.args.ids.now in
    let t = c.args.t in
    rw (
      c.is_edge.ensures,
      c.is_edge-2.ensures,
      c.is_edge-3.ensures,
      side_first ids t,
      side_at ids t 1 (omega arith),
      side_at ids t 2 (omega arith),
    )
