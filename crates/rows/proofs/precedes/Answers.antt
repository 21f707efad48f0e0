-- `rows::precedes` meets its contract: by the areas where they differ, else by the rest of the definition. Assumes nothing.
use mathlib.Core.Path.{◌∙◌, ap}
use lib.Ieee.{lt}
use Rattle.rows.specs.Rows.{then_by, precedes}
use Rattle.rows.proofs.Comparing.{then_first, then_rest}
use Rattle.rows.proofs.precedes.Goals as goal

pub returns-then-less-r : goal.returns-then-less-r
unfolding precedes
returns-then-less-r c =
    let r = c.args.r in
    let s = c.args.s in
    then_first (lt s.area r.area) (lt r.area s.area) _ c.if-less-r.true

pub returns : goal.returns
unfolding precedes
returns c =
    let r = c.args.r in
    let q = c.args.s in
    c.then_by.ensures ∙ ap (then_by (lt r.nx q.nx) (lt q.nx r.nx)) c.then_by-by_ny.ensures
    ∙ then_rest (lt q.area r.area) (lt r.area q.area) _ c.if-less-r.false
