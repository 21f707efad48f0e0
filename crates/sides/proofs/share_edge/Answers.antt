-- `sides::share_edge` meets its contract. Assumes nothing.
use native.Mathlib.Omega.{arith}
use Rattle.ids.specs.Pieces.{share_edge}
use Rattle.ids.proofs.Shared.{side}
use Rattle.sides.proofs.Sides.{side_at, side_first}
use Rattle.sides.proofs.share_edge.Goals as goal

pub returns : goal.returns
unfolding share_edge side
returns c =
    let ids = c.args.ids.now in
    let s = c.args.s in
    rw (
      c.has_edge.ensures,
      c.has_edge-2.ensures,
      c.has_edge-3.ensures,
      c.edge_of-ab.ensures,
      c.edge_of-bc.ensures,
      c.edge_of-ca.ensures,
      side_first ids s,
      side_at ids s 1 (omega arith),
      side_at ids s 2 (omega arith),
    )
