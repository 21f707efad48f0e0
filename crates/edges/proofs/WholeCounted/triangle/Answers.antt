-- `edges::Whole::triangle` meets its contract: a triangle that repeats an id makes no use, another makes three, each with room for those to
-- come. Assumes nothing.
use mathlib.Core.Path.{sym, ◌∙◌}
use native.Mathlib.Omega.{arith}
use Rattle.ids.proofs.Triangles.{append_none}
use Rattle.steps.proofs.Within.{first_fits, second_fits, third_fits, three_added}
use Rattle.edges.proofs.Triangles.{around_none, around_all, whole_added}
use Rattle.edges.proofs.WholeCounted.triangle.Goals as goal

pub returns-then-not-distinct : goal.returns-then-not-distinct
returns-then-not-distinct c =
    let none = around_none _ (sym c.distinct.ensures ∙ c.if-not-distinct.true) in
    whole_added _ (record { adds = λ es m. rw (none, append_none) m })

pub walk-requires : goal.walk-requires
walk-requires c = first_fits c.requires

pub walk-requires-2 : goal.walk-requires-2
walk-requires-2 c = second_fits c.requires (omega arith) c.walk.auto.work c.walk.ensures

pub walk-requires-3 : goal.walk-requires-3
walk-requires-3 c =
    third_fits c.requires (omega arith) c.walk.auto.work c.walk.ensures (omega arith) c.walk-2.auto.work
    c.walk-2.ensures

pub returns : goal.returns
returns c =
    let all = around_all _ (sym c.distinct.ensures ∙ c.if-not-distinct.false) in
    whole_added _ (rw all (three_added c.walk.ensures c.walk-2.ensures c.walk-3.ensures))
