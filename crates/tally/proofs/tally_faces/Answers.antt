-- `tally::tally_faces` meets its contract: what `faces::net` reads off the rows is the largest magnitude, and whether all sums are 0.
-- Assumes nothing.
use Rattle.faces.proofs.Answers.{net-max, net-off}
use Rattle.tally.proofs.tally_faces.Goals as goal

pub returns : goal.returns
returns c =
    λ ids m.
    let n = c.args.n in
    let t = c.args.part.now in
    (rw c.net-net.ensures.0 (net-max ids n t m), rw c.net-net.ensures.1 (net-off ids n t m))
