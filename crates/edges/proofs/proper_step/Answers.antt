-- `edges::proper_step` meets its contract. Assumes nothing.
use Rattle.ids.proofs.Triangles.{append_none}
use Rattle.edges.proofs.Triangles.{step_level, step_proper}
use Rattle.edges.proofs.proper_step.Goals as goal

pub returns-then-u-v : goal.returns-then-u-v
returns-then-u-v c = record { adds = λ es m. rw (step_level _ _ c.if-u-v.true, append_none) m }

pub returns : goal.returns
returns c = rw (step_proper _ _ c.if-u-v.false) c.walk.ensures
