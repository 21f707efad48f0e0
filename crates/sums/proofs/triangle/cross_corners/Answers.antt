-- `sums::triangle::cross_corners` meets its contract: by the cross product and its square. Assumes nothing.
use Rattle.sums.proofs.Parts.{crossed_corners}
use Rattle.sums.proofs.triangle.cross_corners.Goals as goal

pub returns : goal.returns
returns c = crossed_corners _ _ _ _ _ c.normal-n.ensures c.dot.ensures c.tetra.ensures
