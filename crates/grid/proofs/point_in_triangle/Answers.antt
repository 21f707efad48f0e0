-- `grid::point_in_triangle` meets its contract: by the sign of the first side. Assumes nothing.
use mathlib.Core.Path.{◌∙◌}
use Rattle.grid.proofs.Sides.{above_edge, above_outside, below_edge, below_outside, neither_edge, neither_outside}
use Rattle.grid.proofs.point_in_triangle.Goals as goal

pub returns-then-e_less-e : goal.returns-then-e_less-e
returns-then-e_less-e c = below_outside c.args.p c.args.t c.if-d-d_less.true c.if-e_less-e.true

pub returns-then-d-d_less : goal.returns-then-d-d_less
returns-then-d-d_less c = c.edge_if.ensures ∙ below_edge c.args.p c.args.t c.if-d-d_less.true c.if-e_less-e.false

pub returns-then-e-e_less : goal.returns-then-e-e_less
returns-then-e-e_less c = above_outside c.args.p c.args.t c.if-d_less-d.true c.if-e-e_less.true

pub returns-then-d_less-d : goal.returns-then-d_less-d
returns-then-d_less-d c = c.edge_if-then-d_less-d.ensures ∙ above_edge c.args.p c.args.t c.if-d_less-d.true c.if-e-e_less.false

pub returns-then-e-e_less-2 : goal.returns-then-e-e_less-2
returns-then-e-e_less-2 c = neither_outside c.args.p c.args.t c.if-d-d_less.false c.if-d_less-d.false c.if-e-e_less-2.true

pub returns : goal.returns
returns c = c.edge_if-2.ensures ∙ neither_edge c.args.p c.args.t c.if-d-d_less.false c.if-d_less-d.false c.if-e-e_less-2.false
