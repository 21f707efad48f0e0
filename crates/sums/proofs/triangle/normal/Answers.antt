-- `sums::triangle::normal` meets its contract. The two sides are what `minus` answers. Assumes nothing.
use Rattle.std.proofs.Common.{◌∙◌, ap₂}
use Rattle.sums.specs.Facet.{cross, normal}
use Rattle.sums.proofs.triangle.normal.Goals as goal

pub returns : goal.returns
unfolding normal
returns c = c.cross.ensures ∙ ap₂ cross c.minus.ensures c.minus-2.ensures
