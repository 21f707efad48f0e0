-- `edges::Proper::triangle` meets its contract: three steps, each with room for those to come. Assumes nothing.
use Rattle.ids.specs.EdgeChain.{around_proper}
use Rattle.steps.proofs.Within.{first_fits, second_fits, third_fits, three_added}
use Rattle.edges.proofs.Triangles.{step_length, proper_added}
use Rattle.edges.proofs.ProperCounted.triangle.Goals as goal

pub proper_step-requires : goal.proper_step-requires
proper_step-requires c = first_fits c.requires

pub proper_step-requires-2 : goal.proper_step-requires-2
proper_step-requires-2 c =
    second_fits c.requires (step_length c.args.t.a c.args.t.b) c.proper_step.auto.work
    c.proper_step.ensures

pub proper_step-requires-3 : goal.proper_step-requires-3
proper_step-requires-3 c =
    third_fits c.requires (step_length c.args.t.a c.args.t.b) c.proper_step.auto.work c.proper_step.ensures
    (step_length c.args.t.b c.args.t.c) c.proper_step-2.auto.work c.proper_step-2.ensures

pub returns : goal.returns
unfolding around_proper
returns c =
    proper_added _ (three_added c.proper_step.ensures c.proper_step-2.ensures c.proper_step-3.ensures)
