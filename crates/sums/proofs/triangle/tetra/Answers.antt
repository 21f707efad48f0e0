-- `sums::triangle::tetra` meets its contract. The cross product is what `cross` answers. Assumes nothing.
use Rattle.std.proofs.Common.{ap, ◌∙◌}
use Rattle.sums.specs.Facet.{corner, dot, tetra}
use Rattle.sums.proofs.triangle.tetra.Goals as goal

pub returns : goal.returns
unfolding tetra
returns c = c.dot.ensures ∙ ap (dot (corner c.args.t 0)) c.cross.ensures
